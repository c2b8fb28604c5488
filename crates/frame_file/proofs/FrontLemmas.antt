-- What the front of a file says after one more octet, and at its end.
use Rattle.std.proofs.Common.{◌≡◌, ◌≢◌, ℕ, ◌+◌, ◌<◌, ◌≤◌, ◌==◌, ◌⊎◌, inl, inr, Bool, true, false, cond, List, [], ◌∷◌, ◌++◌, length, drop, Some, Result, Ok, Err, refl, sym, ap, subst, ◌∙◌, append_assoc, length-append, arith}
use Rattle.std.specs.Prelude.{◌&&◌, IfSome, IfErr}
use Rattle.std.specs.List.{list_all}
use Rattle.std.proofs.lemmas.Bool.Decides.{nat_tests}
use Rattle.knx_base.specs.Files.{Seen}
use Rattle.text_lines.specs.Reading.{WhereTold, GoesOn, ahead}
use Rattle.text_lines.proofs.Readers.{takes_less}
use Rattle.tag_text.specs.Octets.{is_blank}
use Rattle.frame_file.specs.declared.fault.RecordFault.{RecordFault}
use Rattle.frame_file.specs.declared.fault.RecordFault.TheVariants as fault
use Rattle.frame_file.specs.declared.lead.LeadStep.{LeadStep}
use Rattle.frame_file.specs.declared.lead.LeadStep.TheVariants as step
use Rattle.frame_file.specs.declared.margin.Margin.{Margin}
use Rattle.frame_file.specs.declared.margin.Margin.TheVariants as margin
use Rattle.frame_file.specs.Lists.{IsOfText, refused_by}
use Rattle.frame_file.specs.Logs.{is_log}
use Rattle.frame_file.specs.Records.{records_of}
use Rattle.frame_file.specs.Lead.{LeadState, LeadIs, LinesAre, LinesOrRefusal, Listed, TakesListed, Takes, FrontSoFar, ReadsFront, MarginIs, is_over, may_begin, margin_after, is_of_margin}
use Rattle.frame_file.proofs.MarginLemmas.{margin_grows}
use Rattle.frame_file.proofs.LeadLemmas.{is_list}

-- ---- the margin

over_stays : (m : Margin) (octet : ℕ) → is_over (margin_after m octet) ≡ false → is_over m ≡ false
over_stays margin.Nothing octet e = refl
over_stays margin.OneOctet octet e = refl
over_stays margin.TwoOctets octet e = refl
over_stays (margin.Blanks marked) octet e = refl
over_stays margin.Over octet e = e

one_is : (octet : ℕ) (a b : Bool) (x y : Margin) → (octet == 0xEF) ≡ a → is_blank octet ≡ b
    → is_over (cond a x (cond b y margin.Over)) ≡ false → is_of_margin octet ≡ true
one_is octet true b x y ea eb e = grind (arith, nat_tests, ea)
one_is octet false true x y ea eb e = rw eb refl
one_is octet false false x y ea eb e = absurd cc

mark_is : (octet part : ℕ) (a : Bool) (x : Margin) → 127 < part → (octet == part) ≡ a
    → is_over (cond a x margin.Over) ≡ false → is_of_margin octet ≡ true
mark_is octet part true x high ea e = grind (arith, nat_tests, ea, high)
mark_is octet part false x high ea e = absurd cc

blank_is : (octet : ℕ) (b : Bool) (x : Margin) → is_blank octet ≡ b
    → is_over (cond b x margin.Over) ≡ false → is_of_margin octet ≡ true
blank_is octet true x eb e = rw eb refl
blank_is octet false x eb e = absurd cc

pub of_margin : (m : Margin) (octet : ℕ) → is_over (margin_after m octet) ≡ false → is_of_margin octet ≡ true
of_margin margin.Nothing octet e =
    one_is octet (octet == 0xEF) (is_blank octet) margin.OneOctet (margin.Blanks false) refl refl e
of_margin margin.OneOctet octet e = mark_is octet 0xBB (octet == 0xBB) margin.TwoOctets (omega arith) refl e
of_margin margin.TwoOctets octet e = mark_is octet 0xBF (octet == 0xBF) (margin.Blanks true) (omega arith) refl e
of_margin (margin.Blanks marked) octet e = blank_is octet (is_blank octet) (margin.Blanks marked) refl e
of_margin margin.Over octet e = absurd cc

no_log : (m : Margin) (front rest : List ℕ) → MarginIs m front → is_over m ≡ true → is_log (front ++ rest) ≡ false
no_log margin.Nothing front rest is e = absurd cc
no_log margin.OneOctet front rest is e = absurd cc
no_log margin.TwoOctets front rest is e = absurd cc
no_log (margin.Blanks marked) front rest is e = absurd cc
no_log margin.Over front rest is e = is rest

-- ---- one more octet

not_begun : (octet : ℕ) (b : Bool) → (octet == 60 && b) ≡ false → b ≡ true → octet ≢ 60
not_begun octet true is may e = absurd (cc (sym (ap (λ o. o == 60 && true) e) ∙ is))
not_begun octet false is may e = absurd (cc may)

-- what a list says after one more octet, and the margin
pub record Turn (old new : LeadState) (front : List ℕ) (octet : ℕ) (octets : List ℕ)
    (shown : Result LeadStep RecordFault) : Type 0 where
  pub margin : MarginIs new.margin (front ++ octet ∷ [])
  pub margin_is : new.margin ≡ margin_after old.margin octet
  pub taken : new.taken ≡ length front + 1
  pub few : new.lines + length new.part ≤ length front + 1
  pub ended : (shown ≡ Ok step.Given) ⊎ (shown ≡ Ok step.Skipped) → (1 ≤ new.lines) × (new.part ≡ [])
  pub blank : is_over new.margin ≡ false → (list_all is_of_margin new.part ≡ true) × (shown ≢ Ok step.Given)
  pub text : IfSome new.refused IsOfText
  pub text_shown : IfErr shown IsOfText
  pub listed : Listed new (front ++ octet ∷ []) octets shown

pub turned : (old mid new : LeadState) (front octets : List ℕ) (octet : ℕ) (shown : Result LeadStep RecordFault)
    → LeadIs old front → (octet == 60 && may_begin old.margin) ≡ false
    → mid ≡ record {
      margin = margin_after old.margin octet;
      taken = old.taken + 1;
      lines = old.lines;
      part = old.part;
      refused = old.refused;
    } → TakesListed mid new octet octets shown
    → (new.margin ≡ mid.margin) × (new.taken ≡ mid.taken) × (new.refused ≡ mid.refused)
    → Turn old new front octet octets shown
turned old mid new front octets octet shown is other mid_is takes same =
    let margin_is : new.margin ≡ margin_after old.margin octet = same.0 ∙ ap (λ (s : LeadState). s.margin) mid_is in
    let refused_is : new.refused ≡ old.refused = same.2 ∙ ap (λ (s : LeadState). s.refused) mid_is in
    let takes_old = subst (λ (s : LeadState). TakesListed s new octet octets shown) mid_is takes in
    record {
      margin = subst (λ m. MarginIs m (front ++ octet ∷ [])) (sym margin_is)
          (margin_grows old.margin front octet is.margin
          (not_begun octet (may_begin old.margin) other));
      margin_is = margin_is;
      taken = same.1 ∙ ap (λ (s : LeadState). s.taken) mid_is ∙ ap (λ n. n + 1) is.taken;
      few = omega (arith, takes_old.few, is.few, is.taken);
      ended = λ is_end. let e = takes_old.ended is_end in (omega (arith, e.1), e.2);
      blank = λ still.
          let later : is_over (margin_after old.margin octet) ≡ false = sym (ap is_over margin_is) ∙ still in
          takes_old.blank (is.blank (over_stays old.margin octet later)) (of_margin old.margin octet later);
      text = subst (λ o. IfSome o IsOfText) (sym refused_is) is.text;
      text_shown = takes_old.text is.text;
      listed = takes_old.list front is.listed;
    }

-- it shows nothing yet
pub more_taken : (old new : LeadState) (front octets : List ℕ) (octet : ℕ)
    → Turn old new front octet octets (Ok step.More)
    → LeadIs new (front ++ octet ∷ [])
more_taken old new front octets octet turn = record {
  margin = turn.margin;
  taken = turn.taken ∙ sym (length-append front (octet ∷ []));
  few = omega (arith, turn.few, turn.taken);
  listed = subst (λ o. LinesOrRefusal o new.lines new.part (front ++ octet ∷ [])) (sym turn.listed.0) turn.listed.1;
  blank = λ still. (turn.blank still).0;
  text = turn.text;
}

-- a line of white space was passed
pub skipped_taken : (old new : LeadState) (front octets : List ℕ) (octet : ℕ)
    → Turn old new front octet octets (Ok step.Skipped) → LeadIs new (front ++ octet ∷ [])
skipped_taken old new front octets octet turn = record {
  margin = turn.margin;
  taken = turn.taken ∙ sym (length-append front (octet ∷ []));
  few = omega (arith, turn.few, turn.taken);
  listed = subst (λ o. LinesOrRefusal o new.lines new.part (front ++ octet ∷ [])) (sym turn.listed.0)
      (subst (λ part. LinesAre new.lines part (front ++ octet ∷ [])) (sym turn.listed.1) turn.listed.2);
  blank = λ still. (turn.blank still).0;
  text = turn.text;
}

-- the list is refused, and it may be a log yet
pub refused_taken : (old mid new : LeadState) (front octets : List ℕ) (octet : ℕ) (why : RecordFault)
    → Turn old mid front octet octets (Err why)
    → new ≡ record {
      margin = mid.margin;
      taken = mid.taken;
      lines = mid.lines;
      part = mid.part;
      refused = Some why;
    } → LeadIs new (front ++ octet ∷ [])
refused_taken old mid new front octets octet why turn new_is =
    subst (λ (s : LeadState). LeadIs s (front ++ octet ∷ [])) (sym new_is) (record {
      margin = turn.margin;
      taken = turn.taken ∙ sym (length-append front (octet ∷ []));
      few = omega (arith, turn.few, turn.taken);
      listed = turn.listed;
      blank = λ still. (turn.blank still).0;
      text = turn.text_shown;
    })

-- nothing shows yet
pub passed_taken : (old new : LeadState) (front octets : List ℕ) (octet : ℕ) (shown : LeadStep)
    → Turn old new front octet octets (Ok shown) → is_over new.margin ≡ false → LeadIs new (front ++ octet ∷ [])
passed_taken old new front octets octet step.More turn still = more_taken old new front octets octet turn
passed_taken old new front octets octet step.Skipped turn still = skipped_taken old new front octets octet turn
passed_taken old new front octets octet step.Given turn still = elim ((turn.blank still).1 refl) [ ]
passed_taken old new front octets octet step.Log turn still = elim turn.listed [ ]
passed_taken old new front octets octet step.End turn still = elim turn.listed [ ]

-- the file is a list
pub shown_taken : (old new : LeadState) (front octets : List ℕ) (octet : ℕ) (shown : Result LeadStep RecordFault)
    → Turn old new front octet octets shown → is_over new.margin ≡ true → Takes new front octet octets shown
shown_taken old new front octets octet (Ok step.More) turn over = more_taken old new front octets octet turn
shown_taken old new front octets octet (Ok step.Log) turn over = elim turn.listed [ ]
shown_taken old new front octets octet (Ok step.End) turn over = elim turn.listed [ ]
shown_taken old new front octets octet (Ok step.Given) turn over =
    let ended = turn.ended (inl refl) in (
      ended.0,
      omega (arith, turn.few),
      λ rest. ap records_of (sym (append_assoc front (octet ∷ []) rest))
          ∙ is_list _ (no_log new.margin (front ++ octet ∷ []) rest turn.margin over) ∙ turn.listed rest,
    )
shown_taken old new front octets octet (Ok step.Skipped) turn over =
    let ended = turn.ended (inr refl) in (
      ended.0,
      omega (arith, turn.few),
      λ rest. ap records_of (sym (append_assoc front (octet ∷ []) rest))
          ∙ is_list _ (no_log new.margin (front ++ octet ∷ []) rest turn.margin over) ∙ turn.listed.2.list rest,
    )
shown_taken old new front octets octet (Err why) turn over = (
  λ rest. ap records_of (sym (append_assoc front (octet ∷ []) rest))
      ∙ is_list _ (no_log new.margin (front ++ octet ∷ []) rest turn.margin over) ∙ turn.listed rest,
  turn.text_shown,
)

-- ---- the front of the current file

-- one more octet, and nothing shows yet
pub more_read : (start next : Seen) (kept : List ℕ) (new : LeadState) (front : List ℕ) (octet : ℕ)
    → GoesOn start next [] kept (length front + 1)
    → WhereTold start (λ all. drop start.place all ≡ front ++ octet ∷ ahead next kept all)
    → LeadIs new (front ++ octet ∷ []) → FrontSoFar start next kept new
more_read start next kept new front octet goes given is = record {
  front = front ++ octet ∷ [];
  is = is;
  goes = subst (GoesOn start next [] kept) (sym (length-append front (octet ∷ []))) goes;
  given = λ all has. given all has ∙ sym (append_assoc front (octet ∷ []) (ahead next kept all));
}

-- it shows of which kind the file is
pub shown_read : (start next : Seen) (kept octets : List ℕ) (new : LeadState) (front : List ℕ) (octet : ℕ)
    (shown : Result LeadStep RecordFault)
    → GoesOn start next [] kept (length front + 1)
    → WhereTold start (λ all. drop start.place all ≡ front ++ octet ∷ ahead next kept all)
    → Takes new front octet octets shown → shown ≢ Ok step.More → ReadsFront start next kept new octets shown
shown_read start next kept octets new front octet (Ok step.More) goes given takes other = elim (other refl) [ ]
shown_read start next kept octets new front octet (Ok step.End) goes given takes other = elim takes [ ]
shown_read start next kept octets new front octet (Ok step.Log) goes given takes other = (
  takes_less start next [] kept kept (length front + 1) 1 (omega arith) goes,
  takes.1,
  (
    front,
    takes.2,
    λ all has. given all has ∙ ap (λ o. front ++ o ∷ ahead next kept all) takes.0,
  ),
)
shown_read start next kept octets new front octet (Ok step.Given) goes given takes other = (
  takes_less start next [] kept kept (length front + 1) new.lines (omega (arith, takes.1)) goes,
  takes.0,
  λ all has. ap records_of (given all has) ∙ takes.2 (ahead next kept all),
)
shown_read start next kept octets new front octet (Ok step.Skipped) goes given takes other = (
  takes_less start next [] kept kept (length front + 1) new.lines (omega (arith, takes.1)) goes,
  takes.0,
  λ all has. ap records_of (given all has) ∙ takes.2 (ahead next kept all),
)
shown_read start next kept octets new front octet (Err why) goes given takes other = by why takes where
  list : (why : RecordFault) → Takes new front octet octets (Err why)
      → GoesOn start next [] kept 1 × IsOfText why
      × WhereTold start (λ all. records_of (drop start.place all) ≡ refused_by why)
  list why takes = (
    takes_less start next [] kept kept (length front + 1) 1 (omega arith) goes,
    takes.1,
    λ all has. ap records_of (given all has) ∙ takes.0 (ahead next kept all),
  )

  by : (why : RecordFault) → Takes new front octet octets (Err why) → ReadsFront start next kept new octets (Err why)
  by fault.ReadFault takes = elim takes.1 [ ]
  by (fault.Line number why) takes = list (fault.Line number why) takes
  by (fault.LongLine number) takes = list (fault.LongLine number) takes
  by (fault.TooMany number) takes = list (fault.TooMany number) takes
  by fault.LongFile takes = list fault.LongFile takes
  by (fault.Tag why) takes = list (fault.Tag why) takes
  by (fault.Missing field place) takes = list (fault.Missing field place) takes
  by (fault.Time place) takes = list (fault.Time place) takes
  by (fault.Digits place) takes = list (fault.Digits place) takes
  by fault.NoMemory takes = list fault.NoMemory takes
