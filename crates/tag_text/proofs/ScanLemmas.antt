-- What a scan gives, in what is left.
use Rattle.std.proofs.Common.{◌≡◌, ℕ, ◌==◌, Bool, true, false, cond, List, [], ◌∷◌, length, Some, None, Ok, Err, arith, ap, ◌∙◌, sym}
use Rattle.std.specs.Str.{IsUtf8, IsValidUpTo}
use Rattle.std.specs.Str.Lossy.{utf8_valid_len}
use Rattle.std.proofs.lemmas.Str.{utf8_valid_len-IsUtf8}
use Rattle.std.proofs.lemmas.Bool.Decides.{nat_tests}
use Rattle.tag_text.specs.declared.scan.Given.{Given}
use Rattle.tag_text.specs.declared.tag.Tag.{Tag}
use Rattle.tag_text.specs.declared.tag.Tag.TheVariants as tag
use Rattle.tag_text.specs.declared.tag.TagFault.{TagFault}
use Rattle.tag_text.specs.declared.tag.TagFault.TheVariants as fault
use Rattle.tag_text.specs.Document.{Left, State, Goes, step, left_of, start_of, outcome_of}
use Rattle.tag_text.specs.Scan.{Answers, GivesTag, TakesTag, GivesLeft, end_of}
use Rattle.tag_text.specs.Giving.{only}
use Rattle.tag_text.proofs.DocumentLemmas.{left_goes, left_stops}

gives_tag : (all : Left) (old new : State) (g : Tag) (ends : List Tag) → left_of old ≡ all
    → GivesTag (step old) old new g ends → TakesTag all (left_of new) g ends
gives_tag all old new (tag.Start name attributes place) ends is answer =
    sym is ∙ left_goes old new (tag.Start name attributes place ∷ ends) answer
gives_tag all old new (tag.End place) ends is answer = sym is ∙ left_goes old new (tag.End place ∷ ends) answer
gives_tag all old new tag.Finish ends is answer =
    (sym is ∙ left_stops old None answer.0, ap left_of answer.1 ∙ is, answer.2)

pub gives : (all : Left) (old new : State) (g : Given) → left_of old ≡ all → Answers (step old) old new (Ok (Some g))
    → GivesLeft all (left_of new) (Ok g)
gives all old new g is answer = gives_tag all old new g.tag (end_of g.ended) is answer

pub fails : (all : Left) (old new : State) (f : TagFault) → left_of old ≡ all → Answers (step old) old new (Err f)
    → GivesLeft all (left_of new) (Err f)
fails all old new fault.NoMemory is answer = ap left_of answer ∙ is
fails all old new (fault.Bad place) is answer =
    (sym is ∙ left_stops old (Some (fault.Bad place)) answer.0, ap left_of answer.1 ∙ is)
fails all old new (fault.Deep place) is answer =
    (sym is ∙ left_stops old (Some (fault.Deep place)) answer.0, ap left_of answer.1 ∙ is)
fails all old new (fault.Utf8 place) is answer = answer

pub skips : (all : Left) (old new : State) → left_of old ≡ all → step old ≡ Goes [] new → left_of new ≡ all
skips all old new is goes = sym (left_goes old new [] goes) ∙ is

outcome_test : (octets : List ℕ) (b : Bool) → (utf8_valid_len octets == length octets) ≡ b
    → outcome_of octets ≡ cond b (left_of (start_of octets)) (only (Some (fault.Utf8 (utf8_valid_len octets))))
unfolding outcome_of
outcome_test octets b is =
    ap (λ (b : Bool). cond b (left_of (start_of octets)) (only (Some (fault.Utf8 (utf8_valid_len octets))))) is

pub well_formed : (octets : List ℕ) → IsUtf8 octets → outcome_of octets ≡ left_of (start_of octets)
well_formed octets utf8 =
    let long = utf8_valid_len-IsUtf8 octets utf8 in
    outcome_test octets true (grind (arith, nat_tests))

pub ill_formed : (octets : List ℕ) (n : ℕ) → IsValidUpTo octets n → n ≡ utf8_valid_len octets
    → outcome_of octets ≡ only (Some (fault.Utf8 n))
ill_formed octets n valid is =
    let short = valid.short in
    outcome_test octets false (grind (arith, nat_tests)) ∙ ap (λ (place : ℕ). only (Some (fault.Utf8 place))) (sym is)
