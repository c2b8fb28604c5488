-- Statement: lists of octets XORed octet by octet.
use Rattle.std.specs.Prelude.{ℕ, List, map, bit_xor}
use Rattle.std.specs.List.{zip}

abbrev pub xored : List ℕ → List ℕ → List ℕ
xored xs ys = map (λ pair. bit_xor pair.0 pair.1) (zip xs ys)
