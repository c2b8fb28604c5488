-- What pairs of borrowed texts show: plumbing for proofs.
use Rattle.std.specs.Prelude.{ℕ, List}
use denote.Ref.{Bor}

abbrev pub deref_texts : Bor (List ℕ) × Bor (List ℕ) → List ℕ × List ℕ
deref_texts pair = (pair.0.now, pair.1.now)
