-- A challenge of six octets, added to a number twice, gives the number back; so an answer under one is judged.
use Rattle.std.proofs.Common.{◌≡◌, ℕ, ◌^◌, ◌<◌, List, length, refl, sym, ap, ◌∙◌, subst, arith}
use Rattle.std.specs.Prelude.{slice_index}
use Rattle.std.proofs.lemmas.Nat.{xor_of_8}
use Rattle.knx_base.specs.declared.address.IndAddr.{IndAddr}
use Rattle.knx_base.specs.Number.{number_of, number_at, octets_of}
use Rattle.knx_base.proofs.NumberLemmas.{length-octets_of, number_at-octets_of, octets_of-number_at}
use Rattle.cemi_frames.specs.Frames.{AreOctets}
use Rattle.secure_apdu.specs.Sync.{xor_octets, xor_number}
use Rattle.secure_apdu.proofs.SyncLemmas.{xor_octets-six, xor_octets-twice}
use Rattle.exchange_law.specs.Exchange.{AnswerIsJudged}
use Rattle.exchange_law.proofs.Exchanges.{answer_judged}

record AreSix (xs : List ℕ) : Type 0 where
  six : length xs ≡ 6
  fits0 : slice_index xs 0 < 256
  fits1 : slice_index xs 1 < 256
  fits2 : slice_index xs 2 < 256
  fits3 : slice_index xs 3 < 256
  fits4 : slice_index xs 4 < 256
  fits5 : slice_index xs 5 < 256

of_octets : (xs : List ℕ) → length xs ≡ 6 → AreOctets xs → AreSix xs
of_octets xs six octets = record {
  six = six;
  fits0 = octets 0;
  fits1 = octets 1;
  fits2 = octets 2;
  fits3 = octets 3;
  fits4 = octets 4;
  fits5 = octets 5;
}

of_number : (n : ℕ) → AreSix (octets_of n)
unfolding octets_of
of_number n = record {
  six = refl;
  fits0 = omega arith;
  fits1 = omega arith;
  fits2 = omega arith;
  fits3 = omega arith;
  fits4 = omega arith;
  fits5 = omega arith;
}

of_both : (c n : List ℕ) → AreSix c → AreSix n → AreSix (xor_octets c n)
of_both c n of_c of_n = subst AreSix (xor_octets-six c n of_c.six of_n.six) (record {
  six = refl;
  fits0 = xor_of_8 (slice_index c 0) (slice_index n 0) of_c.fits0 of_n.fits0;
  fits1 = xor_of_8 (slice_index c 1) (slice_index n 1) of_c.fits1 of_n.fits1;
  fits2 = xor_of_8 (slice_index c 2) (slice_index n 2) of_c.fits2 of_n.fits2;
  fits3 = xor_of_8 (slice_index c 3) (slice_index n 3) of_c.fits3 of_n.fits3;
  fits4 = xor_of_8 (slice_index c 4) (slice_index n 4) of_c.fits4 of_n.fits4;
  fits5 = xor_of_8 (slice_index c 5) (slice_index n 5) of_c.fits5 of_n.fits5;
})

six_fit : (xs : List ℕ) → AreSix xs → number_of xs < 2 ^ 48
unfolding number_at
six_fit xs is = omega (arith, is.fits0, is.fits1, is.fits2, is.fits3, is.fits4, is.fits5)

twice : (challenge : List ℕ) (number : ℕ) → AreSix challenge → number < 2 ^ 48
    → xor_number challenge (xor_number challenge number) ≡ number
twice challenge number is fits =
    let shown = xor_octets challenge (octets_of number) in
    let six : AreSix shown = of_both challenge (octets_of number) is (of_number number) in
    let back : octets_of (number_of shown) ≡ shown =
    octets_of-number_at shown six.six six.fits0 six.fits1 six.fits2 six.fits3 six.fits4 six.fits5 in
    ap (λ o. number_of (xor_octets challenge o)) back
    ∙ ap number_of (xor_octets-twice challenge (octets_of number) (is.six ∙ sym (length-octets_of number)))
    ∙ number_at-octets_of number fits

pub answer_is_judged : (key : List ℕ) (source destination : IndAddr) (number : ℕ) (challenge : List ℕ) (kept : ℕ)
    → number < 2 ^ 48 → kept < 2 ^ 48 → length challenge ≡ 6 → AreOctets challenge
    → AnswerIsJudged key source destination number challenge kept
answer_is_judged key source destination number challenge kept fits kept_fits six octets =
    let is : AreSix challenge = of_octets challenge six octets in
    answer_judged key source destination number challenge kept fits kept_fits
    (six_fit (xor_octets challenge (octets_of number)) (of_both challenge (octets_of number) is (of_number number)))
    (twice challenge number is fits)
