-- The two octets of a service, and what stands after them.
use Rattle.std.proofs.Common.{◌≡◌, ℕ, bit_and, ◌+◌, ◌-◌, ◌*◌, ◌/◌, ◌%◌, ◌<◌, ◌≤◌, List, [], ◌∷◌, length, get_or, take, drop, Ok, refl, sym, ap, ◌∙◌, arith}
use Rattle.std.proofs.lemmas.Bool.{lt-ltb}
use Rattle.std.proofs.lemmas.List.{take_all}
use Rattle.std.proofs.lemmas.Grind.{and_numeral}
use Rattle.plain_apdu.specs.declared.service.Service.{Service}
use Rattle.plain_apdu.specs.Service.{service_of}
use Rattle.plain_apdu.specs.Apdu.{Inner, inner, inner_of, apci_of, IsInner}

two_octets : (octets : List ℕ) → 2 ≤ length octets → octets ≡ get_or octets 0 0 ∷ get_or octets 1 0
    ∷ take (length octets - 2) (drop 2 octets)
two_octets [] long = absurd (omega arith)
two_octets (first ∷ []) long = absurd (omega arith)
two_octets (first ∷ second ∷ content) long =
    ap (λ (rest : List ℕ). first ∷ second ∷ rest) (sym (take_all _ content (omega arith)))

-- what the reader makes of the octets and the service that their bits name
abbrev pub read_parts : List ℕ → Service → Inner
read_parts octets service = record {
  service = service;
  low = bit_and (get_or octets 1 0) 63;
  content = take (length octets - 2) (drop 2 octets);
}

-- It is what the octets say, and they spell it.
pub inner_of-octets : (octets : List ℕ) (bits : ℕ) (service : Service) → 2 ≤ length octets → get_or octets 0 0 < 4
    → get_or octets 1 0 < 256 → bits ≡ get_or octets 0 0 * 256 + get_or octets 1 0 → service ≡ service_of bits
    → (Ok (read_parts octets service) ≡ inner_of octets) × IsInner octets (Ok (read_parts octets service))
unfolding inner_of
inner_of-octets octets bits service long low octet bits_is service_is =
    let parts = two_octets octets long in
    let code : apci_of (get_or octets 0 0) (get_or octets 1 0) ≡ bits = omega arith in
    let upper : bits / 256 ≡ get_or octets 0 0 = omega arith in
    let lower : bits % 256 ≡ get_or octets 1 0 = omega arith in
    let short : bit_and (get_or octets 1 0) 63 ≡ bits % 64 = grind (arith, and_numeral) in
    let found : read_parts octets service ≡ inner bits (take (length octets - 2) (drop 2 octets)) =
    rw (service_is, short) refl in (
      ap (λ (i : Inner). Ok i) found ∙ sym (ap inner_of parts ∙ rw (lt-ltb (get_or octets 0 0) 4 low, code) refl),
      (bits, take (length octets - 2) (drop 2 octets), omega arith, parts ∙ rw (upper, lower) refl, found),
    )
