-- The first fault of the head and then of the body is the first fault of all.
use Rattle.std.proofs.Common.{◌≡◌, ◌≢◌, ℕ, Bool, true, false, cond, eqb, List, [], ◌∷◌, ◌++◌, length, slice_index, Option, Some, None, Result, Ok, Err, refl, sym, ap, ◌∙◌}
use Rattle.cemi_frames.specs.declared.frame.Code.{Code}
use Rattle.cemi_frames.specs.declared.frame.Code.TheVariants.{Req, Ind, Con, Busmon}
use Rattle.cemi_frames.specs.declared.frame.Frame.{Frame}
use Rattle.cemi_frames.specs.declared.frame.NotFrame.{NotFrame}
use Rattle.cemi_frames.specs.Frames.{Telegram}
use Rattle.cemi_frames.specs.Faults.{Refusal, first_of, head_tests, body_tests, raw_tests, data_tests, body_of, frame_fault}
use Rattle.cemi_frames.specs.Reading.{code_at, data_frame, raw_frame, body_frame, frame_at, Reads}

pub first_of-append : (front back : List Refusal) → first_of front ≡ None → first_of (front ++ back) ≡ first_of back
first_of-append [] back none = refl
first_of-append (refusal ∷ front) back none = by refusal.applies refusal.fault (first_of-append front back) none
  where
    by : (b : Bool) (f : NotFrame) → (first_of front ≡ None → first_of (front ++ back) ≡ first_of back)
        → cond b (Some f) (first_of front) ≡ None → cond b (Some f) (first_of (front ++ back)) ≡ first_of back
    by true f later e = absurd cc
    by false f later e = later e

pub first_of-front : (front back : List Refusal) (fault : NotFrame) → first_of front ≡ Some fault
    → first_of (front ++ back) ≡ Some fault
first_of-front [] back fault found = absurd cc
first_of-front (refusal ∷ front) back fault found =
    by refusal.applies refusal.fault (first_of-front front back fault) found
  where
    by : (b : Bool) (f : NotFrame) → (first_of front ≡ Some fault → first_of (front ++ back) ≡ Some fault)
        → cond b (Some f) (first_of front) ≡ Some fault → cond b (Some f) (first_of (front ++ back)) ≡ Some fault
    by true f later e = e
    by false f later e = later e

pub frame_fault-head : (octets : List ℕ) (fault : NotFrame) → first_of (head_tests octets) ≡ Some fault
    → frame_fault octets ≡ Some fault
unfolding frame_fault
frame_fault-head octets fault found = first_of-front (head_tests octets) (body_tests octets) fault found

pub Reads-along : (r : Result Frame NotFrame) (fault fault' : Option NotFrame) (t t' : Telegram) → fault ≡ fault'
    → t ≡ t' → Reads r fault t → Reads r fault' t'
Reads-along (Ok frame) fault fault' t t' same_fault same reads = (sym same_fault ∙ reads.0, reads.1 ∙ same)
Reads-along (Err e) fault fault' t t' same_fault same reads = sym same_fault ∙ reads

abbrev pub body_fault : Code → ℕ → List ℕ → Option NotFrame
body_fault Req whole body = first_of (data_tests whole body)
body_fault Ind whole body = first_of (data_tests whole body)
body_fault Con whole body = first_of (data_tests whole body)
body_fault Busmon whole body = first_of (raw_tests whole body)

pub first_of-body : (octets : List ℕ) → first_of (body_tests octets)
    ≡ body_fault (code_at (slice_index octets 0)) (length octets) (body_of octets)
first_of-body octets =
    by (eqb (slice_index octets 0) 0x2b) (eqb (slice_index octets 0) 0x11) (eqb (slice_index octets 0) 0x29)
  where
    by : (busmon req ind : Bool) → first_of (cond busmon (raw_tests (length octets) (body_of octets))
        (data_tests (length octets) (body_of octets))) ≡ body_fault
        (cond busmon Busmon (cond req Req (cond ind Ind Con))) (length octets) (body_of octets)
    by true req ind = refl
    by false true ind = refl
    by false false true = refl
    by false false false = refl

pub frame_fault-body : (octets : List ℕ) → first_of (head_tests octets) ≡ None
    → frame_fault octets ≡ body_fault (code_at (slice_index octets 0)) (length octets) (body_of octets)
unfolding frame_fault
frame_fault-body octets none = first_of-append (head_tests octets) (body_tests octets) none ∙ first_of-body octets

reads_body : (octets body : List ℕ) (code : Code) (r : Result Frame NotFrame) → first_of (head_tests octets) ≡ None
    → code ≡ code_at (slice_index octets 0) → body ≡ body_of octets
    → Reads r (body_fault code (length octets) body) (body_frame code body)
    → Reads r (frame_fault octets) (frame_at octets)
unfolding frame_at
reads_body octets body code r none code_is body_is reads =
    let fault : body_fault code (length octets) body ≡ frame_fault octets =
    ap (λ (k : Code). body_fault k (length octets) body) code_is
    ∙ ap (body_fault (code_at (slice_index octets 0)) (length octets)) body_is
    ∙ sym (frame_fault-body octets none) in
    let frame : body_frame code body ≡ body_frame (code_at (slice_index octets 0)) (body_of octets) =
    ap (λ (k : Code). body_frame k body) code_is ∙ ap (body_frame (code_at (slice_index octets 0))) body_is in
    Reads-along r (body_fault code (length octets) body) (frame_fault octets) (body_frame code body)
    (body_frame (code_at (slice_index octets 0)) (body_of octets)) fault frame reads

-- What the reader of the body answers is what the reader of all octets answers.
pub reads_raw : (octets body : List ℕ) (code : Code) (r : Result Frame NotFrame) → first_of (head_tests octets) ≡ None
    → code ≡ code_at (slice_index octets 0) → body ≡ body_of octets → code ≡ Busmon
    → Reads r (first_of (raw_tests (length octets) body)) (raw_frame body)
    → Reads r (frame_fault octets) (frame_at octets)
reads_raw octets body Busmon r none code_is body_is raw reads =
    reads_body octets body Busmon r none code_is body_is reads
reads_raw octets body Req r none code_is body_is raw reads = absurd cc
reads_raw octets body Ind r none code_is body_is raw reads = absurd cc
reads_raw octets body Con r none code_is body_is raw reads = absurd cc

pub reads_data : (octets body : List ℕ) (code : Code) (r : Result Frame NotFrame) → first_of (head_tests octets) ≡ None
    → code ≡ code_at (slice_index octets 0) → body ≡ body_of octets → code ≢ Busmon
    → Reads r (first_of (data_tests (length octets) body)) (data_frame code body)
    → Reads r (frame_fault octets) (frame_at octets)
reads_data octets body Busmon r none code_is body_is no_raw reads = absurd (no_raw refl)
reads_data octets body Req r none code_is body_is no_raw reads = reads_body octets body Req r none code_is body_is reads
reads_data octets body Ind r none code_is body_is no_raw reads = reads_body octets body Ind r none code_is body_is reads
reads_data octets body Con r none code_is body_is no_raw reads = reads_body octets body Con r none code_is body_is reads
