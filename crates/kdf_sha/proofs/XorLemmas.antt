-- XOR of two lists of one length, octet by octet.
use Rattle.std.proofs.Common.{◌≡◌, ℕ, ◌<◌, List, length, get_or, bit_xor, arith, ap, ◌∙◌}
use Rattle.std.proofs.lemmas.List.{get_or-map, length-map}
use Rattle.std.proofs.lemmas.Slice.Zip.{get_or-zip, length-zip}
use Rattle.std.specs.List.{zip}
use Rattle.kdf_sha.specs.Xor.{xored}

pub length-xored : (xs ys : List ℕ) → length xs ≡ length ys → length (xored xs ys) ≡ length xs
length-xored xs ys same =
    length-map (zip xs ys) (λ (pair : ℕ × ℕ). bit_xor pair.0 pair.1) ∙ omega (arith, length-zip xs ys)

pub get_or-xored : (xs ys : List ℕ) (k : ℕ) → k < length xs → length xs ≡ length ys
    → get_or (xored xs ys) k 0 ≡ bit_xor (get_or xs k 0) (get_or ys k 0)
get_or-xored xs ys k below same =
    get_or-map (λ (pair : ℕ × ℕ). bit_xor pair.0 pair.1) (zip xs ys) k (0, 0) 0 (omega (arith, length-zip xs ys))
    ∙ ap (λ (pair : ℕ × ℕ). bit_xor pair.0 pair.1) (get_or-zip xs ys k (0, 0) below (omega arith))
