use Rattle.std.proofs.Common.{◌-◌, length, rules, sym, subst}
use Rattle.std.specs.Io.KnownBytes.{Consumes}
use Rattle.std.proofs.KnownBytes.{Consumes-trans}
use Rattle.input.proofs.Reading.{read_on}
use Rattle.input.proofs.fill.Goals as goal

pub loop-n-preserved : goal.loop-n-preserved
loop-n-preserved g c =
    let room = length c.loop-n.buf - c.loop-n.n in
    let front = read_on c.loop-n.n room c.in_ok-more.more c.loop-n.buf c.read.new.buf c.loop-n.invariant.1 c.in_ok-more.ensures.bound.0 in
    (search rules, search rules, subst (Consumes _ _) (sym front) (Consumes-trans _ _ _ _ _ c.loop-n.invariant.2 c.in_ok-more.ensures.bytes.0))
