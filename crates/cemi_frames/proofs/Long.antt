-- The octets of a message of data, and of an extended frame before its check octet.
use Rattle.std.proofs.Common.{◌≡◌, ◌≢◌, ℕ, suc, ◌+◌, ◌-◌, ◌*◌, ◌/◌, ◌%◌, ◌<◌, ◌≤◌, Bool, true, false, eqb, ltb, List, [], ◌∷◌, length, get_or, drop, None, refl, ap, ◌∙◌, arith}
use Rattle.std.proofs.lemmas.Bool.{eqb-false, ltb-false, le-ltb, ne_eqb, eq-eqb}
use Rattle.std.proofs.lemmas.List.{length-drop}
use Rattle.cemi_frames.specs.declared.frame.Code.{Code}
use Rattle.cemi_frames.specs.declared.frame.NotFrame.TheVariants as faults
use Rattle.cemi_frames.specs.Fields.{Fields, long_octets}
use Rattle.cemi_frames.specs.Frames.{said_by, AreOctets}
use Rattle.cemi_frames.specs.Faults.{first_of, differ, data_tests}
use Rattle.cemi_frames.specs.Reading.{long_fields, marked, data_frame}
use Rattle.cemi_frames.proofs.Passing.{passed, differ-false}

seven_octets : (body : List ℕ) → 7 ≤ length body → body ≡ get_or body 0 0 ∷ get_or body 1 0 ∷ get_or body 2 0
    ∷ get_or body 3 0 ∷ get_or body 4 0 ∷ get_or body 5 0 ∷ get_or body 6 0 ∷ drop 7 body
seven_octets [] long = absurd (omega arith)
seven_octets (a ∷ []) long = absurd (omega arith)
seven_octets (a ∷ b ∷ []) long = absurd (omega arith)
seven_octets (a ∷ b ∷ c ∷ []) long = absurd (omega arith)
seven_octets (a ∷ b ∷ c ∷ d ∷ []) long = absurd (omega arith)
seven_octets (a ∷ b ∷ c ∷ d ∷ e ∷ []) long = absurd (omega arith)
seven_octets (a ∷ b ∷ c ∷ d ∷ e ∷ f ∷ []) long = absurd (omega arith)
seven_octets (a ∷ b ∷ c ∷ d ∷ e ∷ f ∷ g ∷ rest) long = refl

-- ---- octets to fields

pub long_octets-fields : (body : List ℕ) → AreOctets body → 7 ≤ length body → length body ≡ get_or body 6 0 + 8
    → body ≡ long_octets (long_fields body (drop 7 body))
unfolding long_octets
long_octets-fields body octets long size =
    let b3 = octets 3 in
    let b5 = octets 5 in
    let s1 : (get_or body 2 0 * 256 + get_or body 3 0) / 256 ≡ get_or body 2 0 = omega arith in
    let s0 : (get_or body 2 0 * 256 + get_or body 3 0) % 256 ≡ get_or body 3 0 = omega arith in
    let d1 : (get_or body 4 0 * 256 + get_or body 5 0) / 256 ≡ get_or body 4 0 = omega arith in
    let d0 : (get_or body 4 0 * 256 + get_or body 5 0) % 256 ≡ get_or body 5 0 = omega arith in
    let l : length (drop 7 body) - 1 ≡ get_or body 6 0 = omega (arith, length-drop 7 body) in
    seven_octets body long ∙ rw (s1, s0, d1, d0, l) refl

-- ---- fields to octets

-- The fields that stand in the octets of fields are these, with the content that they are read with.
pub said_by-long : (code : Code) (repeated : Bool) (f : Fields) (rest : List ℕ)
    → said_by code repeated (long_fields (f.control ∷ f.control2 ∷ (f.source / 256) ∷ (f.source % 256)
    ∷ (f.destination / 256) ∷ (f.destination % 256) ∷ rest) f.content) ≡ said_by code repeated f
said_by-long code repeated f rest =
    let source : f.source / 256 * 256 + f.source % 256 ≡ f.source = omega arith in
    let destination : f.destination / 256 * 256 + f.destination % 256 ≡ f.destination = omega arith in
    ap (λ (s : ℕ). record {
      code = code;
      repeated = repeated;
      priority = f.control / 4 % 4;
      control2 = f.control2;
      source = s;
      destination = f.destination / 256 * 256 + f.destination % 256;
      content = f.content;
    }) source
    ∙ ap (λ (d : ℕ). record {
      code = code;
      repeated = repeated;
      priority = f.control / 4 % 4;
      control2 = f.control2;
      source = f.source;
      destination = d;
      content = f.content;
    }) destination

-- ---- a message of data

pub data_tests-none : (whole : ℕ) (body : List ℕ) → first_of (data_tests whole body) ≡ None → (7 ≤ length body)
    × (get_or body 6 0 ≢ 255) × (length body ≡ get_or body 6 0 + 8)
unfolding data_tests
data_tests-none whole body none =
    let short = passed (ltb (length body) 7) (faults.Short whole) _ none in
    let escape = passed (eqb (get_or body 6 0) 255) faults.Escape _ short.1 in
    let size = passed (differ (length body - 7) (get_or body 6 0 + 1))
    (faults.Length (get_or body 6 0 + 1) (length body - 7)) None escape.1 in
    let long : 7 ≤ length body = ltb-false _ _ short.0 in
    let found : length body - 7 ≡ get_or body 6 0 + 1 = differ-false _ _ size.0 in
    (long, eqb-false _ _ escape.0, omega arith)

pub data_tests-octets : (whole : ℕ) (f : Fields) → 0 < length f.content → length f.content ≤ 255
    → first_of (data_tests whole (long_octets f)) ≡ None
unfolding data_tests long_octets
data_tests-octets whole f some fits =
    let long : ltb (suc (suc (suc (suc (suc (suc (suc (length f.content)))))))) 7 ≡ false = le-ltb _ _ (omega arith) in
    let no_escape : eqb (length f.content - 1) 255 ≡ false = ne_eqb _ _ (λ e. omega arith) in
    let size : eqb (suc (suc (suc (suc (suc (suc (suc (length f.content))))))) - 7) (length f.content - 1 + 1) ≡ true =
    eq-eqb _ _ (omega arith) in
    rw (long, no_escape, size) refl

pub data_frame-octets : (code : Code) (f : Fields) → data_frame code (long_octets f)
    ≡ said_by code (marked code f.control) f
unfolding long_octets
data_frame-octets code f = said_by-long code (marked code f.control) f ((length f.content - 1) ∷ f.content)
