-- What stands in the buffer once an APDU was written to its front.
use Rattle.std.proofs.Common.{◌≡◌, ℕ, ◌+◌, List, ◌++◌, length, take, drop, refl, ap, ◌∙◌, arith}
use Rattle.std.proofs.Math.Seq.{take-append_seam, drop-append_seam}
use Rattle.plain_apdu.specs.Apdu.{apdu_of}
use Rattle.datapoints.specs.declared.dpt.Dpt.{Dpt}
use Rattle.datapoints.specs.declared.dpt.Dpt.TheVariants.{Switch}
use Rattle.datapoints.specs.Apdus.{apdu_with}

octets_with : (dpt : Dpt) (bits : ℕ) (octets : List ℕ) → (dpt ≡ Switch → ⊥)
    → apdu_of bits octets ≡ apdu_with dpt bits octets
octets_with Switch bits octets other = absurd (other refl)
octets_with _ bits octets other = refl

pub written_is : (dpt : Dpt) (bits count : ℕ) (octets out old : List ℕ) → (dpt ≡ Switch → ⊥)
    → out ≡ apdu_of bits octets ++ drop count old → count ≡ length octets + 2
    → (take count out ≡ apdu_with dpt bits octets) × (drop count out ≡ drop count old)
written_is dpt bits count octets out old other is size =
    let front : List ℕ = apdu_of bits octets in
    let whole : count ≡ length front = omega arith in (
      ap (λ n. take n out) whole ∙ ap (take (length front)) is ∙ take-append_seam front (drop count old)
          ∙ octets_with dpt bits octets other,
      ap (λ n. drop n out) whole ∙ ap (drop (length front)) is ∙ drop-append_seam front (drop count old),
    )
