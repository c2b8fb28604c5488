-- Plumbing: text that waits in a page of its own before it goes to a sink.
use Rattle.std.specs.Prelude.{◌≡◌, ◌⊎◌, ℕ, List, ◌++◌, Option, Result, MatchResult}
use Rattle.std.specs.Io.KnownBytes.{append_known}
use Rattle.knx_base.specs.Faults.{Rose}
use Rattle.knx_base.specs.Sink.{AppendsPrefix}

-- the octets that wait, and how many writes the page refused
pub record PageState : Type 0 where
  pub held : List ℕ
  pub faults : ℕ

-- A text was added to what waits, of which a front went on to the sink; or the sink failed, and took a prefix of all.
abbrev pub Passes : {T E : Type 0} → List ℕ → List ℕ → Option (List ℕ) → Option (List ℕ) → Result T E → List ℕ → Type 0
Passes held kept old new result text =
    MatchResult result
    (λ _. (handed : List ℕ) × (new ≡ append_known old handed) × (handed ++ kept ≡ held ++ text))
    (λ _. AppendsPrefix old new (held ++ text))

-- All that waited went on, unless the sink counted a fault.
abbrev pub HandsOn : List ℕ → Option (List ℕ) → Option (List ℕ) → ℕ → ℕ → Type 0
HandsOn held old new before now = (new ≡ append_known old held) ⊎ Rose before now
