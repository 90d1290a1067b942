-- Placed: the events of some steps stand before those of the steps that follow.
use mathlib.Core.Path.{◌≡◌, refl, sym, ap, ◌∙◌}
use mathlib.Core.Bool.{cond}
use mathlib.Core.List.{List, [], ◌∷◌, ◌++◌}
use borrow.Author.Tests.{eq-eqb}
use lib.Dec.{eqb}
use Rattle.std.proofs.Common.{append_assoc}
use Rattle.std.proofs.Math.Seq.{get_or-append_seam}
use Rattle.lamport.specs.declared.Step.{Step}
use Rattle.lamport.specs.declared.Step.TheVariants.{Mark}
use Rattle.lamport.specs.Counted.{Counted, counts_then, counted_answer, counted_next, counted_after}
use Rattle.causal.specs.Events.{alone, stamped, events_of, events}
use Rattle.causal.specs.Told.{ReadingPlaced}

pub events-append : (s : Counted) (ks ls : List Step) → events s (ks ++ ls) ≡ events s ks ++ events (counted_after s ks) ls
events-append s [] ls = refl
events-append s (k ∷ ks) ls =
    ap (λ es. cond (eqb (counted_answer s k) 0) (events_of s k) [] ++ es) (events-append (counted_next s k) ks ls)
    ∙ sym (append_assoc (cond (eqb (counted_answer s k) 0) (events_of s k) []) (events (counted_next s k) ks) (events (counted_after (counted_next s k) ks) ls))

pub reading-placed : ReadingPlaced
reading-placed s ks ls p z =
    rw (events-append s ks (Mark p ∷ ls), eq-eqb (counted_answer (counted_after s ks) (Mark p)) 0 z)
    (get_or-append_seam (events s ks) (stamped p alone (counts_then (counted_after s ks) (Mark p))) (events (counted_next (counted_after s ks) (Mark p)) ls) (stamped 0 alone (λ a. 0)))
