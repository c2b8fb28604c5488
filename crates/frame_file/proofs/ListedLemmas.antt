-- What a list says after one more octet, as it is read.
use Rattle.std.proofs.Common.{◌≡◌, ◌≢◌, ℕ, zero, suc, ◌+◌, ◌-◌, nat_lt, eqb, Bool, true, false, cond, ◌⊎◌, inl, inr, List, [], ◌∷◌, ◌++◌, length, take, get_or, Some, None, Result, Ok, Err, refl, sym, ap, subst, ◌∙◌, arith}
use Rattle.std.specs.Prelude.{IfErr}
use Rattle.std.specs.List.{list_all, filter}
use Rattle.std.specs.Str.Lines.{strip_carriage_return}
use Rattle.std.proofs.lemmas.Bool.Decides.{nat_tests}
use Rattle.std.proofs.lemmas.List.Splits.{slice_split-cons_yes}
use Rattle.text_lines.specs.Lines.{most_octets, is_blank, is_text, is_word, words_of, is_comment}
use Rattle.knx_base.specs.declared.cause.Cause.{Cause}
use Rattle.knx_base.specs.declared.cause.Cause.TheVariants as cause
use Rattle.frame_file.specs.declared.fault.RecordFault.{RecordFault}
use Rattle.frame_file.specs.declared.fault.RecordFault.TheVariants as fault
use Rattle.frame_file.specs.declared.lead.LeadStep.{LeadStep}
use Rattle.frame_file.specs.declared.lead.LeadStep.TheVariants as step
use Rattle.frame_file.specs.Lists.{IsOfText}
use Rattle.frame_file.specs.Records.{record_of, record_of_judged, said_by}
use Rattle.frame_file.specs.Lead.{LeadState, LinesOrRefusal, Listed, TakesListed, step_said, is_of_margin}
use Rattle.frame_file.proofs.MarginLemmas.{both}
use Rattle.frame_file.proofs.LeadLemmas.{line_fed, overlong}

-- ---- a line of a margin says no record

words_past : (octet : ℕ) (rest : List ℕ) → is_blank octet ≡ true → words_of (octet ∷ rest) ≡ words_of rest
words_past octet rest e = ap (filter is_word) (slice_split-cons_yes is_blank octet rest e)

blank_octet : (octet : ℕ) → is_of_margin octet ≡ true → is_text octet ≡ true → is_blank octet ≡ true
blank_octet octet margin text = grind (arith, nat_tests, margin, text)

no_words : (line : List ℕ) → list_all is_of_margin line ≡ true → list_all is_text line ≡ true → words_of line ≡ []
no_words [] margin text = refl
no_words (octet ∷ line) margin text =
    let first = both (is_of_margin octet) (list_all is_of_margin line) margin in
    let second = both (is_text octet) (list_all is_text line) text in
    words_past octet line (blank_octet octet first.0 second.0) ∙ no_words line first.1 second.1

judged_none : (line octets : List ℕ) (long comment text : Bool)
    → comment ≡ is_comment (words_of line) → (text ≡ true → words_of line ≡ [])
    → record_of_judged (cond long (Err cause.Long) (cond comment (Ok None) (cond text (Ok (Some (words_of line)))
    (Err cause.Words)))) ≢ Ok (Some octets)
judged_none line octets true comment text is none e = absurd (cc e)
judged_none line octets false true text is none e = absurd (cc e)
judged_none line octets false false false is none e = absurd (cc e)
judged_none line octets false false true is none e = absurd (cc (is ∙ ap is_comment (none refl)))

no_record : (line octets : List ℕ) → list_all is_of_margin line ≡ true → record_of line ≢ Ok (Some octets)
no_record line octets margin = judged_none line octets (nat_lt most_octets (length line))
    (is_comment (words_of line)) (list_all is_text line) refl (λ text. no_words line margin text)

all_taken : (n : ℕ) (line : List ℕ) → list_all is_of_margin line ≡ true
    → list_all is_of_margin (take n line) ≡ true
all_taken zero line all = refl
all_taken (suc n) [] all = refl
all_taken (suc n) (octet ∷ line) all =
    let each = both (is_of_margin octet) (list_all is_of_margin line) all in rw each.0 (all_taken n line each.1)

stripped : (line : List ℕ) → list_all is_of_margin line ≡ true
    → list_all is_of_margin (strip_carriage_return line) ≡ true
stripped line all = by (eqb (get_or line (length line - 1) 0) 13) where
  by : (b : Bool) → list_all is_of_margin (cond b (take (length line - 1) line) line) ≡ true
  by true = all_taken (length line - 1) line all
  by false = all

no_given : (number : ℕ) (line octets : List ℕ) (said : Result Bool Cause) → list_all is_of_margin line ≡ true
    → record_of line ≡ said_by said octets → step_said number said ≢ Ok step.Given
no_given number line octets (Ok true) all says e = no_record line octets all says
no_given number line octets (Ok false) all says e = absurd (cc e)
no_given number line octets (Err why) all says e = absurd (cc e)

-- ---- one more octet

pub listed_feed : (old new : LeadState) (octet : ℕ) (octets line : List ℕ) (said : Result Bool Cause)
    (shown : Result LeadStep RecordFault) → octet ≡ 10 → old.refused ≡ None
    → line ≡ strip_carriage_return old.part → record_of line ≡ said_by said octets
    → shown ≡ step_said (old.lines + 1) said → IfErr shown IsOfText
    → new.lines ≡ old.lines + 1 → new.part ≡ [] → new.refused ≡ old.refused
    → TakesListed old new octet octets shown
listed_feed old new octet octets line said shown feed none line_is says shown_is text lines_are part_is refused_is =
    let says_part : record_of (strip_carriage_return old.part) ≡ said_by said octets =
    ap record_of (sym line_is) ∙ says in
    record {
      list = λ front listed.
          subst (λ o. Listed new (front ++ o ∷ []) octets shown) (sym feed)
          (subst (Listed new (front ++ 10 ∷ []) octets) (sym shown_is)
          (line_fed new old.lines old.part front octets said
          (subst (λ o. LinesOrRefusal o old.lines old.part front) none listed)
          says_part lines_are part_is (refused_is ∙ none)));
      few = omega (arith, lines_are, ap length part_is);
      ended = λ end. (feed, lines_are, part_is);
      blank = λ all here. (
        ap (list_all is_of_margin) part_is,
        λ e. no_given (old.lines + 1) (strip_carriage_return old.part) octets said (stripped old.part all) says_part
            (sym shown_is ∙ e),
      );
      text = λ before. text;
    }

pub listed_long : (old : LeadState) (octet : ℕ) (octets : List ℕ) → octet ≢ 10 → old.refused ≡ None
    → length old.part ≡ 1025 → TakesListed old old octet octets (Err (fault.LongLine (old.lines + 1)))
listed_long old octet octets other none full = record {
  list = λ front listed. overlong old.lines old.part front octet
      (subst (λ o. LinesOrRefusal o old.lines old.part front) none listed) other full;
  few = omega arith;
  ended = λ end. by end;
  blank = λ all here. (all, λ e. absurd (cc e));
  text = λ before. tt;
} where
  by : (Err (fault.LongLine (old.lines + 1)) ≡ Ok step.Given) ⊎ (Err (fault.LongLine (old.lines + 1)) ≡ Ok step.Skipped)
      → (octet ≡ 10) × (old.lines ≡ old.lines + 1) × (old.part ≡ [])
  by (inl e) = absurd (cc e)
  by (inr e) = absurd (cc e)
