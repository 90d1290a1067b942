-- Kinds and phases as words of a table.
use Rattle.std.specs.Prelude.{ℕ, ◌≡◌, ◌<◌, Result, MatchResult}
use Rattle.lamport.specs.Table.{phase_number}
use Rattle.lamport.specs.declared.Kind.{Kind}
use Rattle.lamport.specs.declared.Kind.TheVariants.{Request, Ack, Release}
use Rattle.lamport.specs.declared.Phase.{Phase}
use Rattle.lamport.specs.declared.UnknownCode.{UnknownCode}

-- a kind as a word
abbrev pub code_of : Kind → ℕ
code_of Request = 0
code_of Ack = 1
code_of Release = 2

-- the phase that a word names, or an error with a word that names none
abbrev pub NamesPhase : ℕ → Result Phase UnknownCode → Type 0
NamesPhase code r = MatchResult r (λ phase. phase_number phase ≡ code) (λ e. (e.0 ≡ code) × (2 < code))

-- the kind that a word names, or an error with a word that names none
abbrev pub NamesKind : ℕ → Result Kind UnknownCode → Type 0
NamesKind code r = MatchResult r (λ kind. code_of kind ≡ code) (λ e. (e.0 ≡ code) × (2 < code))
