use Rattle.std.proofs.Common.{◌≡◌, ℕ, ◌+◌, ◌-◌, List, length, take, drop, map, reverse, arith, ap, ◌∙◌}
use denote.Ref.{Bor}
use Rattle.tag_text.proofs.OpenLemmas.{reverse_shorter, length_from_back}
use Rattle.tag_text.proofs.open.Open.pop.Goals as goal

pub returns : goal.returns
returns c =
    let now : Bor (List ℕ) → List ℕ = λ name. name.now in
    let long : length c.args.self.now ≡ c.self.inside.depth =
    length_from_back now c.self.inside.names c.self.inside.depth c.args.self.now c.self.view_is
    (omega (arith, c.self.told, c.self.invariant)) in
    let whole : c.self.inside.depth - 1 + 1 ≡ c.self.inside.depth = omega (arith, long, c.requires.some) in
    record {
      popped =
          reverse_shorter now c.self.inside.names (c.self.inside.depth - 1)
          (omega (arith, long, c.requires.some, c.self.told, c.self.invariant))
          ∙ ap (λ (n : ℕ). drop 1 (reverse (map now (take n c.self.inside.names)))) whole
          ∙ ap (λ (names : List (List ℕ)). drop 1 names) c.self.view_is;
    }
