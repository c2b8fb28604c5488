-- What the reader's answer says of the octets.
use Rattle.std.proofs.Common.{◌≡◌, ℕ, ◌+◌, ◌-◌, Bool, true, false, cond, eqb, List, length, take, drop, Result, Ok, Err, ◌&&◌, inl, inr, refl, sym, ap, subst, ◌∙◌, arith}
use Rattle.std.specs.Prelude.{slice_index, slice_range, MatchResult, IfOk}
use Rattle.std.proofs.lemmas.Bool.{cases_lt}
use Rattle.std.proofs.lemmas.List.{length-take, take_all, drop-drop}
use Rattle.cemi_frames.specs.declared.frame.Code.TheVariants.{Req, Ind, Con, Busmon}
use Rattle.cemi_frames.specs.declared.frame.Frame.{Frame}
use Rattle.cemi_frames.specs.declared.frame.NotFrame.{NotFrame}
use Rattle.cemi_frames.specs.Frames.{Telegram, telegram, IsFrame, AreOctets}
use Rattle.cemi_frames.specs.Faults.{body_place, body_of, is_standard, frame_fault}
use Rattle.cemi_frames.specs.Reading.{raw_frame, body_frame, frame_at, content_place, StandsAt, Reads}
use Rattle.cemi_frames.proofs.OneAnswer.{is_frame, frame_is_read}

pub found_frame : (octets : List ℕ) (r : Result Frame NotFrame) → AreOctets octets
    → Reads r (frame_fault octets) (frame_at octets) → IfOk r (λ found. IsFrame octets (telegram found))
found_frame octets (Ok found) are_octets reads =
    subst (IsFrame octets) (sym reads.1) (is_frame octets are_octets reads.0)
found_frame octets (Err fault) are_octets reads = tt

pub only_frame : (octets : List ℕ) (r : Result Frame NotFrame) → Reads r (frame_fault octets) (frame_at octets)
    → (t : Telegram) → IsFrame octets t → MatchResult r (λ found. telegram found ≡ t) (λ _. ⊥)
only_frame octets (Ok found) reads t is = reads.1 ∙ sym (frame_is_read octets t is).1
only_frame octets (Err fault) reads t is = let none = (frame_is_read octets t is).0 in absurd cc

-- ---- where the content stands

front_again : (n : ℕ) (xs : List ℕ) → take (length (take n xs)) xs ≡ take n xs
front_again n xs =
    elim (cases_lt n (length xs)) [
      | inl within ↦ let size : length (take n xs) ≡ n =
          omega (arith, length-take n xs) in ap (λ (k : ℕ). take k xs) size
      | inr past ↦ let whole =
          take_all n xs past in take_all (length (take n xs)) xs (omega (arith, ap length whole)) ∙ sym whole
    ]

part_again : (place n : ℕ) (octets : List ℕ) → take n (drop place octets)
    ≡ slice_range octets place (place + length (take n (drop place octets)))
part_again place n octets =
    let size : place + length (take n (drop place octets)) - place ≡ length (take n (drop place octets)) =
    omega arith in
    sym (ap (λ (k : ℕ). take k (drop place octets)) size ∙ front_again n (drop place octets))

rest_again : (place : ℕ) (octets : List ℕ) → drop place octets
    ≡ slice_range octets place (place + length (drop place octets))
rest_again place octets =
    let size : place + length (drop place octets) - place ≡ length (drop place octets) = omega arith in
    sym (ap (λ (k : ℕ). take k (drop place octets)) size ∙ take_all (length (drop place octets)) (drop place octets)
    (omega arith))

data_stands : (octets : List ℕ) → StandsAt octets (body_place octets + 7) (drop 7 (body_of octets))
data_stands octets = subst (StandsAt octets (body_place octets + 7)) (sym (drop-drop 7 (body_place octets) octets))
    (rest_again (body_place octets + 7) octets)

raw_stands : (octets : List ℕ) (skip n : ℕ) → StandsAt octets (body_place octets + skip)
    (take n (drop skip (body_of octets)))
raw_stands octets skip n = subst (λ (xs : List ℕ). StandsAt octets (body_place octets + skip) (take n xs))
    (sym (drop-drop skip (body_place octets) octets)) (part_again (body_place octets + skip) n octets)

content-stands : (octets : List ℕ) → StandsAt octets (content_place octets) (frame_at octets).content
unfolding frame_at raw_frame
content-stands octets = by (eqb (slice_index octets 0) 0x2b) (eqb (slice_index octets 0) 0x11)
    (eqb (slice_index octets 0) 0x29) (is_standard (slice_index (body_of octets) 0)) refl
  where
    by : (busmon req ind standard : Bool) → is_standard (slice_index (body_of octets) 0) ≡ standard
        → StandsAt octets (body_place octets + cond (busmon && standard) 6 7)
        (body_frame (cond busmon Busmon (cond req Req (cond ind Ind Con))) (body_of octets)).content
    by true req ind true is = rw is (raw_stands octets 6 (length (body_of octets) - 7))
    by true req ind false is = rw is (raw_stands octets 7 (length (body_of octets) - 8))
    by false true ind standard is = data_stands octets
    by false false true standard is = data_stands octets
    by false false false standard is = data_stands octets

pub found_content : (octets : List ℕ) (r : Result Frame NotFrame) → Reads r (frame_fault octets) (frame_at octets)
    → IfOk r (λ found. StandsAt octets (content_place octets) found.content.now)
found_content octets (Ok found) reads =
    subst (λ (t : Telegram). StandsAt octets (content_place octets) t.content) (sym reads.1) (content-stands octets)
found_content octets (Err fault) reads = tt
