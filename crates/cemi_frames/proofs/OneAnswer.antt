-- Octets are exactly one frame, or have exactly one fault.
use Rattle.std.proofs.Common.{◌≡◌, ℕ, ◌+◌, ◌-◌, ◌<◌, ◌≤◌, Bool, true, false, cond, eqb, List, length, take, drop, Option, Some, None, inl, inr, ◌||◌, refl, sym, ap, subst, ◌∙◌, arith}
use Rattle.std.specs.Prelude.{slice_index, MatchOption}
use Rattle.std.proofs.lemmas.Bool.{eqb-true}
use Rattle.std.proofs.lemmas.List.{length-drop, get_or-drop}
use Rattle.cemi_frames.specs.declared.frame.Code.{Code}
use Rattle.cemi_frames.specs.declared.frame.Code.TheVariants.{Req, Ind, Con, Busmon}
use Rattle.cemi_frames.specs.declared.frame.NotFrame.{NotFrame}
use Rattle.cemi_frames.specs.Fields.{InfoRow, Fields, long_octets, standard_octets, checked, message}
use Rattle.cemi_frames.specs.Frames.{Telegram, said_by, repeat_mark, IsData, IsStandard, IsExtended, IsCase, IsFrame, AreOctets}
use Rattle.cemi_frames.specs.Faults.{first_of, head_tests, data_tests, raw_tests, body_tests, body_place, body_of, is_code, frame_fault}
use Rattle.cemi_frames.specs.Reading.{long_fields, standard_fields, marked, data_frame, raw_frame, code_at, body_frame, frame_at}
use Rattle.cemi_frames.specs.Law.{HasOneAnswer, IsReadAsItIs}
use Rattle.cemi_frames.proofs.FirstFault.{body_fault, first_of-body, frame_fault-body}
use Rattle.cemi_frames.proofs.Passing.{first_of-none}
use Rattle.cemi_frames.proofs.Message.{HeadOf-message, message-head}
use Rattle.cemi_frames.proofs.Long.{long_octets-fields, data_tests-none, data_tests-octets, data_frame-octets}
use Rattle.cemi_frames.proofs.Raw.{extended-octets, octets-extended, standard-octets, octets-standard, raw_tests-none, raw_tests-standard, raw_tests-extended}

-- ---- message codes

abbrev pub code_number : Code → ℕ
code_number Req = 0x11
code_number Ind = 0x29
code_number Con = 0x2e
code_number Busmon = 0x2b

code_number-known : (code : Code) → is_code (code_number code) ≡ true
code_number-known Req = refl
code_number-known Ind = refl
code_number-known Con = refl
code_number-known Busmon = refl

code_at-number : (code : Code) → code_at (code_number code) ≡ code
code_at-number Req = refl
code_at-number Ind = refl
code_at-number Con = refl
code_at-number Busmon = refl

number-code_at : (octet : ℕ) → is_code octet ≡ true → octet ≡ code_number (code_at octet)
number-code_at octet known =
    by (eqb octet 0x2b) (eqb octet 0x11) (eqb octet 0x29) (eqb octet 0x2e) refl refl refl refl known
  where
    by : (busmon req ind con : Bool) → eqb octet 0x2b ≡ busmon → eqb octet 0x11 ≡ req → eqb octet 0x29 ≡ ind
        → eqb octet 0x2e ≡ con → (((req || ind) || con) || busmon) ≡ true
        → octet ≡ code_number (cond busmon Busmon (cond req Req (cond ind Ind Con)))
    by true req ind con eb er ei ec known = eqb-true _ _ eb
    by false true ind con eb er ei ec known = eqb-true _ _ er
    by false false true con eb er ei ec known = eqb-true _ _ ei
    by false false false true eb er ei ec known = eqb-true _ _ ec
    by false false false false eb er ei ec known = absurd cc

-- ---- what has no fault is a frame

data_case : (code : Code) (rows : List InfoRow) (body : List ℕ) (whole : ℕ) → AreOctets body
    → first_of (data_tests whole body) ≡ None
    → (0 < length (drop 7 body)) × (length (drop 7 body) ≤ 255)
    × (message (code_number code) rows body ≡ message (code_number code) rows
    (long_octets (long_fields body (drop 7 body))))
data_case code rows body whole octets none =
    let facts = data_tests-none whole body none in
    let byte6 = octets 6 in (
      omega (arith, length-drop 7 body),
      omega (arith, length-drop 7 body),
      ap (message (code_number code) rows)
          (long_octets-fields body octets facts.0 facts.2),
    )

raw_case : (octets body : List ℕ) (rows : List InfoRow) (whole : ℕ) → octets ≡ message 0x2b rows body → AreOctets body
    → first_of (raw_tests whole body) ≡ None → IsFrame octets (raw_frame body)
unfolding long_octets standard_octets
raw_case octets body rows whole spelled are_octets none =
    elim (raw_tests-none whole body none) [
      | inl is ↦
          let parts = standard-octets whole body are_octets is.tests in
          let content = take (length body - 7) (drop 6 body) in
          subst (IsFrame octets) (sym is.frame_is) (
            record (standard_fields body (take (length body - 7) (drop 6 body)))
                { rows = rows },
            (
              inl (record {
                format = is.format_is;
                low_bits = omega arith;
                not_empty = parts.1;
                fits = parts.2;
                spelled = spelled ∙ ap (message 0x2b rows) parts.0;
              }),
              refl,
            ),
          )
      | inr is ↦
          let parts = extended-octets whole body are_octets is.tests in
          subst (IsFrame octets) (sym is.frame_is) (
            record (long_fields body (take (length body - 8) (drop 7 body)))
                { rows = rows },
            (
              inr (record {
                format = is.format_is;
                not_empty = parts.1;
                fits = parts.2;
                spelled = spelled ∙ ap (message 0x2b rows) parts.0;
              }),
              refl,
            ),
          )
    ]

body_case : (code : Code) (octets body : List ℕ) (rows : List InfoRow) (whole : ℕ)
    → octets ≡ message (code_number code) rows body → AreOctets body → body_fault code whole body ≡ None
    → IsFrame octets (body_frame code body)
unfolding long_octets
body_case Req octets body rows whole spelled are_octets none =
    let parts = data_case Req rows body whole are_octets none in (
      record (long_fields body (drop 7 body)) { rows = rows },
      (record { not_empty = parts.0; fits = parts.1; spelled = spelled ∙ parts.2 }, refl),
    )
body_case Ind octets body rows whole spelled are_octets none =
    let parts = data_case Ind rows body whole are_octets none in (
      record (long_fields body (drop 7 body)) { rows = rows },
      (record { not_empty = parts.0; fits = parts.1; spelled = spelled ∙ parts.2 }, refl),
    )
body_case Con octets body rows whole spelled are_octets none =
    let parts = data_case Con rows body whole are_octets none in (
      record (long_fields body (drop 7 body)) { rows = rows },
      (record { not_empty = parts.0; fits = parts.1; spelled = spelled ∙ parts.2 }, refl),
    )
body_case Busmon octets body rows whole spelled are_octets none =
    raw_case octets body rows whole spelled are_octets none

pub is_frame : (octets : List ℕ) → AreOctets octets → frame_fault octets ≡ None → IsFrame octets (frame_at octets)
unfolding frame_fault frame_at
is_frame octets are_octets none =
    let both = first_of-none (head_tests octets) (body_tests octets) none in
    let head = message-head octets both.0 in
    let body_octets : AreOctets (body_of octets) =
    λ i. rw (get_or-drop (body_place octets) octets i 0) (are_octets (body_place octets + i)) in
    let spelled : octets ≡ message (code_number (code_at (slice_index octets 0))) head.1.0 (body_of octets) =
    head.1.1 ∙ ap (λ (k : ℕ). message k head.1.0 (body_of octets)) (number-code_at (slice_index octets 0) head.0) in
    body_case (code_at (slice_index octets 0)) octets (body_of octets) head.1.0 (length octets) spelled body_octets
    (sym (first_of-body octets) ∙ both.1)

-- ---- a frame has no fault, and is the one that is read

frame_of-message : (code : Code) (rows : List InfoRow) (body : List ℕ)
    → ((whole : ℕ) → body_fault code whole body ≡ None) → (frame_fault (message (code_number code) rows body) ≡ None)
    × (frame_at (message (code_number code) rows body) ≡ body_frame code body)
unfolding frame_at
frame_of-message code rows body none =
    let octets = message (code_number code) rows body in
    let head = HeadOf-message (code_number code) rows body (code_number-known code) in
    let code_is : code_at (slice_index (message (code_number code) rows body) 0) ≡ code =
    ap code_at head.code_is ∙ code_at-number code in
    let fault : body_fault (code_at (slice_index (message (code_number code) rows body) 0))
    (length (message (code_number code) rows body)) (body_of (message (code_number code) rows body))
    ≡ body_fault code (length (message (code_number code) rows body)) body =
    ap (λ (k : Code). body_fault k (length (message (code_number code) rows body))
    (body_of (message (code_number code) rows body))) code_is
    ∙ ap (body_fault code (length (message (code_number code) rows body))) head.body_is in
    let frame : body_frame (code_at (slice_index (message (code_number code) rows body) 0))
    (body_of (message (code_number code) rows body)) ≡ body_frame code body =
    ap (λ (k : Code). body_frame k (body_of (message (code_number code) rows body))) code_is
    ∙ ap (body_frame code) head.body_is in (
      frame_fault-body (message (code_number code) rows body) head.tests ∙ fault
          ∙ none (length (message (code_number code) rows body)),
      frame,
    )

-- no fault, and this frame
abbrev IsRead : List ℕ → Telegram → Type 0
IsRead octets t = (frame_fault octets ≡ None) × (t ≡ frame_at octets)

data_read : (code : Code) (octets : List ℕ) (f : Fields) (t : Telegram)
    → ((whole : ℕ) (body : List ℕ) → first_of (data_tests whole body) ≡ None → body_fault code whole body ≡ None)
    → body_frame code (long_octets f) ≡ data_frame code (long_octets f)
    → IsData (code_number code) octets f → t ≡ said_by code (marked code f.control) f → IsRead octets t
data_read code octets f t same_tests same_frame is t_is =
    let read = frame_of-message code f.rows (long_octets f) (λ whole. same_tests whole (long_octets f)
    (data_tests-octets whole f is.not_empty is.fits)) in (
      ap frame_fault is.spelled ∙ read.0,
      t_is ∙ sym (data_frame-octets code f) ∙ sym same_frame ∙ sym read.1
          ∙ ap frame_at (sym is.spelled),
    )

standard_read : (octets : List ℕ) (f : Fields) (t : Telegram) → IsStandard octets f
    → t ≡ said_by Busmon (repeat_mark f.control) f → IsRead octets t
unfolding standard_octets
standard_read octets f t is t_is =
    let parts = λ (whole : ℕ). octets-standard whole f is.low_bits is.not_empty is.fits in
    let raw =
    λ (whole : ℕ). raw_tests-standard whole (checked (standard_octets f)) (omega arith) is.format (parts whole).0 in
    let read = frame_of-message Busmon f.rows (checked (standard_octets f)) (λ whole. (raw whole).0) in (
      ap frame_fault is.spelled ∙ read.0,
      t_is ∙ sym (parts 0).1 ∙ sym (raw 0).1 ∙ sym read.1
          ∙ ap frame_at (sym is.spelled),
    )

extended_read : (octets : List ℕ) (f : Fields) (t : Telegram) → IsExtended octets f
    → t ≡ said_by Busmon (repeat_mark f.control) f → IsRead octets t
unfolding long_octets
extended_read octets f t is t_is =
    let parts = λ (whole : ℕ). octets-extended whole f is.not_empty is.fits in
    let raw =
    λ (whole : ℕ). raw_tests-extended whole (checked (long_octets f)) (omega arith) is.format (parts whole).0 in
    let read = frame_of-message Busmon f.rows (checked (long_octets f)) (λ whole. (raw whole).0) in (
      ap frame_fault is.spelled ∙ read.0,
      t_is ∙ sym (parts 0).1 ∙ sym (raw 0).1 ∙ sym read.1
          ∙ ap frame_at (sym is.spelled),
    )

case_read : (code : Code) (octets : List ℕ) (f : Fields) (t : Telegram) → IsCase code octets f t → IsRead octets t
case_read Req octets f t (is, t_is) = data_read Req octets f t (λ whole body none. none) refl is t_is
case_read Ind octets f t (is, t_is) = data_read Ind octets f t (λ whole body none. none) refl is t_is
case_read Con octets f t (is, t_is) = data_read Con octets f t (λ whole body none. none) refl is t_is
case_read Busmon octets f t (inl is, t_is) = standard_read octets f t is t_is
case_read Busmon octets f t (inr is, t_is) = extended_read octets f t is t_is

pub frame_is_read : (octets : List ℕ) (t : Telegram) → IsFrame octets t → (frame_fault octets ≡ None)
    × (t ≡ frame_at octets)
frame_is_read octets t (f, is) = case_read t.code octets f t is

-- ---- the law

pub one_answer : (octets : List ℕ) → AreOctets octets → HasOneAnswer octets
one_answer octets are_octets = by (frame_fault octets) refl
  where
    by : (fault : Option NotFrame) → frame_fault octets ≡ fault
        → MatchOption fault ((t : Telegram) × IsFrame octets t × ((other : Telegram) → IsFrame octets other
        → other ≡ t)) (λ _. (t : Telegram) → IsFrame octets t → ⊥)
    by None none = (frame_at octets, is_frame octets are_octets none, λ other is. (frame_is_read octets other is).1)
    by (Some fault) found = λ t is. let none = (frame_is_read octets t is).0 in cc

pub read_as_it_is : (octets : List ℕ) → AreOctets octets → IsReadAsItIs octets
read_as_it_is octets are_octets t = (
  frame_is_read octets t,
  λ read. subst (IsFrame octets) (sym read.1) (is_frame octets are_octets read.0),
)
