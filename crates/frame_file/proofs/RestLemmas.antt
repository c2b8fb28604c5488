-- A log is read to its end in pieces.
use Rattle.std.proofs.Common.{◌≡◌, ◌≢◌, ℕ, ◌+◌, ◌<◌, ◌≤◌, ◌⊎◌, inl, inr, nat_lt, false, List, [], ◌∷◌, ◌++◌, length, drop, Option, Some, None, Result, Ok, Err, refl, sym, ap, subst, ◌∙◌, append_assoc, append-nil, length-append, arith}
use Rattle.std.specs.Prelude.{IfOk, IfErr, IfSome}
use Rattle.std.proofs.lemmas.Bool.Decides.{nat_tests}
use Rattle.knx_base.specs.Faults.{Rose}
use Rattle.knx_base.specs.Files.{Seen}
use Rattle.text_lines.specs.Reading.{WhereTold, GoesOn, OthersStay, ReadsRest, ahead}
use Rattle.text_lines.proofs.Readers.{has_same, goes_then, takes_less}
use Rattle.tag_text.specs.Document.{outcome_of}
use Rattle.frame_file.specs.declared.fault.RecordFault.{RecordFault}
use Rattle.frame_file.specs.declared.fault.RecordFault.TheVariants as fault
use Rattle.frame_file.specs.Lists.{RecordList, IsOfText}
use Rattle.frame_file.specs.Logs.{most_logged, log_of, entries_of}
use Rattle.frame_file.specs.Lead.{LeadState, IsFront, margin_text}
use Rattle.frame_file.specs.LogReads.{LogIs, ReadsLog}
use Rattle.frame_file.proofs.SpacedLemmas.{spaced_log}

-- ---- one piece

-- a piece is held
pub held_goes : (start now next : Seen) (held between kept : List ℕ) → GoesOn start now held between 0
    → GoesOn now next between kept 0 → GoesOn start next held kept 0
held_goes start now next held between kept first then_ = goes_then start now next held between kept 0 0 first then_

pub held_given : (start now next : Seen) (held between kept front text : List ℕ) → GoesOn start now held between 0
    → WhereTold start (λ octets. front ++ ahead start held octets ≡ text ++ ahead now between octets)
    → WhereTold now (λ octets. ahead now between octets ≡ ahead next kept octets)
    → WhereTold start (λ octets. front ++ ahead start held octets ≡ text ++ ahead next kept octets)
held_given start now next held between kept front text goes given piece = λ octets has.
    given octets has ∙ ap (λ (rest : List ℕ). text ++ rest)
    (piece octets (has_same start now held between 0 goes octets has))

-- and taken
pub piece_goes : (start next : Seen) (held kept after : List ℕ) → GoesOn start next held kept 0 → after ≡ []
    → GoesOn start next held after 0
piece_goes start next held kept after goes none =
    takes_less start next held kept after 0 0 (omega (arith, ap length none)) goes

pub piece_given : (start next : Seen) (held kept after front text all : List ℕ) → after ≡ [] → all ≡ text ++ kept
    → WhereTold start (λ octets. front ++ ahead start held octets ≡ text ++ ahead next kept octets)
    → WhereTold start (λ octets. front ++ ahead start held octets ≡ all ++ ahead next after octets)
piece_given start next held kept after front text all none all_is given = λ octets has.
    given octets has ∙ sym (append_assoc text kept (drop next.place octets))
    ∙ (λ i. sym all_is i ++ (sym none i ++ drop next.place octets))

-- ---- the end

pub rest_read : (start now next : Seen) (held kept front text : List ℕ) → GoesOn start now held kept 0
    → kept ≡ [] → length text ≤ 16777216
    → WhereTold start (λ octets. front ++ ahead start held octets ≡ text ++ ahead now kept octets)
    → WhereTold start (λ octets. drop now.place octets ≡ [])
    → WhereTold start (λ octets. ReadsRest 16777216 (front ++ ahead start held octets) (drop now.place octets)
    (Some text))
rest_read start now next held kept front text goes none room given end = λ octets has.
    let last = end octets has in
    (sym (given octets has ∙ (λ i. text ++ (none i ++ last i)) ∙ append-nil text), room, last)

pub rest_long : (start now : Seen) (held kept front text : List ℕ) → 16777216 < length text + length kept
    → WhereTold start (λ octets. front ++ ahead start held octets ≡ text ++ ahead now kept octets)
    → WhereTold start (λ octets. ReadsRest 16777216 (front ++ ahead start held octets) (drop now.place octets) None)
rest_long start now held kept front text long given = λ octets has.
    omega (
      arith,
      long,
      ap length (given octets has),
      length-append text (ahead now kept octets),
      length-append kept (drop now.place octets),
    )

-- ---- the log

fits : (text : List ℕ) → length text ≤ most_logged → log_of text ≡ entries_of (outcome_of text)
fits text few =
    let within : nat_lt most_logged (length text) ≡ false = grind (arith, nat_tests, few) in rw within refl

log_read : (seen later : Seen) (held kept text whole : List ℕ) (lead : LeadState)
    → IsFront lead.margin lead.taken (Some text)
    → WhereTold seen (λ octets. ReadsRest 16777216 (text ++ ahead seen held octets) (drop later.place octets)
    (Some whole))
    → WhereTold seen (λ octets. (drop later.place octets ≡ [])
    × LogIs seen held lead (entries_of (outcome_of whole)) octets)
log_read seen later held kept text whole lead front rest = λ octets has.
    let all = rest octets has in
    let after = ahead seen held octets in (
      all.2,
      λ before is may.
          spaced_log lead.margin before after lead.taken is.margin may is.taken
          ∙ ap log_of (sym (append_assoc (margin_text lead.margin lead.taken) (60 ∷ []) after))
          ∙ ap (λ (t : List ℕ). log_of (t ++ after)) (sym front.1) ∙ ap log_of (sym all.0)
          ∙ fits whole all.1,
    )

-- what the log says, unless there is no memory
pub log_said : (seen later : Seen) (held kept text whole : List ℕ) (lead : LeadState) (found : Option (List ℕ))
    (said : Result RecordList RecordFault)
    → IsFront lead.margin lead.taken (Some text) → GoesOn seen later held kept 0 → kept ≡ [] → found ≡ Some whole
    → WhereTold seen (λ octets. ReadsRest 16777216 (text ++ ahead seen held octets) (drop later.place octets) found)
    → IfOk said (λ list. list ≡ entries_of (outcome_of whole)) → IfOk said (λ list. length list.records ≤ most_logged)
    → IfOk said (λ list. IfSome list.refused IsOfText) → IfErr said (λ why. why ≡ fault.NoMemory)
    → ReadsLog seen later held kept lead said
log_said seen later held kept text whole lead found (Ok list) front goes none found_is rest list_is few text_ memory = (
  goes,
  none,
  few,
  text_,
  subst (λ l. WhereTold seen (λ octets. (drop later.place octets ≡ [])
      × LogIs seen held lead l octets)) (sym list_is) (log_read seen later held kept text whole lead front
      (subst (λ f. WhereTold seen (λ octets. ReadsRest 16777216 (text ++ ahead seen held octets)
      (drop later.place octets) f)) found_is rest)),
)
log_said seen later held kept text whole lead found (Err why) front goes none found_is rest list_is few text_ memory =
    subst (λ w. ReadsLog seen later held kept lead (Err w)) (sym memory) goes

pub read_failed : (seen later : Seen) (held kept : List ℕ) (lead : LeadState) (why : RecordFault)
    → later.told ≡ seen.told → OthersStay seen later → (why ≢ fault.ReadFault → GoesOn seen later held kept 0)
    → (why ≡ fault.NoMemory) ⊎ ((why ≡ fault.ReadFault) × Rose seen.faults later.faults)
    → ReadsLog seen later held kept lead (Err why)
read_failed seen later held kept lead why told others goes (inl is) =
    subst (λ w. ReadsLog seen later held kept lead (Err w)) (sym is) (goes (λ e. absurd (cc (sym is ∙ e))))
read_failed seen later held kept lead why told others goes (inr is) =
    subst (λ w. ReadsLog seen later held kept lead (Err w)) (sym is.0) (told, others, is.1)
