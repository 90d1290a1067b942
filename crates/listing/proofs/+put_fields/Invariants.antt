-- The measure is how many cells are left.
use Rattle.std.proofs.Common.{length}
use Rattle.listing.proofs.+put_fields.Given as goal

abbrev pub decreases-put_fields : goal.decreases-put_fields
decreases-put_fields l = length l.cells.now
