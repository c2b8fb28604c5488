-- From an opened APDU to the verdict, and to what is kept.
use Rattle.std.proofs.Common.{◌≡◌, ℕ, List, [], ◌∷◌, ◌++◌, Option, Some, None, refl, sym, ap, ◌∙◌}
use Rattle.std.specs.Prelude.{unwrap_or, if◌then◌else◌}
use Rattle.std.specs.Option.{is_some}
use Rattle.std.proofs.lemmas.Option.{cond_some}
use Rattle.knx_ccm.specs.Sealing.{opened}
use Rattle.cemi_frames.specs.Frames.{Telegram}
use Rattle.secure_apdu.specs.Secure.{HasParts}
use Rattle.secure_apdu.specs.Opening.{head_of}
use Rattle.key_tables.specs.declared.types.Channel.{Channel}
use Rattle.key_tables.specs.declared.types.Row.{Row}
use Rattle.key_tables.specs.Rows.{key_of}
use Rattle.judge_rules.specs.declared.verdict.Verdict.{Verdict}
use Rattle.judge_rules.specs.Parts.{body_in, head_in}
use Rattle.judge_rules.specs.Checks.{key_on, apdu_in, codes_in, unless_opened, opened_checks, last_checks, first_failing, good_verdict, verdict_or, verdict_on, Kept, kept_of, kept_on}
use Rattle.judge_rules.proofs.Failing.{first_failing-after, first_failing-stays}

-- the parts that were read, under the key that was found, are those of the telegram
pub opened_as : (rows : List Row) (c : Channel) (key : List ℕ) (t : Telegram) (number field shown : ℕ)
    (body apdu : List ℕ)
    → key_of rows c ≡ Some key → HasParts t.content field shown body
    → opened key (head_of t number field) body ≡ Some apdu
    → opened (key_on rows c) (head_in number t) (body_in t) ≡ Some apdu
opened_as rows c key t number field shown body apdu is_key parts said =
    (λ i. opened (unwrap_or (is_key i) []) (head_of t number (sym parts.field_is i)) (sym parts.body_is i)) ∙ said

said_by_opened : (rows : List Row) (number : ℕ) (c : Channel) (t : Telegram) (apdu : List ℕ)
    → opened (key_on rows c) (head_in number t) (body_in t) ≡ Some apdu → apdu_in (key_on rows c) number t ≡ apdu
said_by_opened rows number c t apdu said = (cond_some _ _ _ said).1

pub opened_verdict : (rows : List Row) (mark number : ℕ) (c : Channel) (t : Telegram) (apdu : List ℕ)
    (verdict : Verdict)
    → opened (key_on rows c) (head_in number t) (body_in t) ≡ Some apdu
    → ((failed : Verdict) → first_failing (opened_checks rows number c t apdu) ≡ Some failed → verdict ≡ failed)
    → (first_failing (opened_checks rows number c t apdu) ≡ None
    → verdict ≡ verdict_or (good_verdict number t apdu) (first_failing (last_checks rows mark number c t apdu)))
    → verdict ≡ verdict_on rows mark number c t
opened_verdict rows mark number c t apdu verdict said refused passed =
    by_first (first_failing (opened_checks rows number c t apdu)) refl ∙ sym whole where
      from_opened : List ℕ → Option (List ℕ) → Verdict
      from_opened a o = verdict_or (good_verdict number t a)
          (first_failing ((unless_opened o (codes_in (key_on rows c) number t) ∷ opened_checks rows number c t a)
          ++ last_checks rows mark number c t a))

      whole : verdict_on rows mark number c t ≡ from_opened apdu (Some apdu)
      whole = λ i. from_opened (said_by_opened rows number c t apdu said i) (said i)

      by_first : (first : Option Verdict) → first_failing (opened_checks rows number c t apdu) ≡ first
          → verdict ≡ from_opened apdu (Some apdu)
      by_first None is = passed is
          ∙ sym (ap (verdict_or (good_verdict number t apdu)) (first_failing-after (opened_checks rows number c t apdu)
          (last_checks rows mark number c t apdu) is))
      by_first (Some failed) is = refused failed is
          ∙ sym (ap (verdict_or (good_verdict number t apdu)) (first_failing-stays (opened_checks rows number c t apdu)
          (last_checks rows mark number c t apdu) failed is))

pub opened_kept : (rows : List Row) (mark number : ℕ) (c : Channel) (t : Telegram) (apdu : List ℕ) (keeps : Kept)
    → opened (key_on rows c) (head_in number t) (body_in t) ≡ Some apdu
    → ((failed : Verdict) → first_failing (opened_checks rows number c t apdu) ≡ Some failed → keeps ≡ None)
    → (first_failing (opened_checks rows number c t apdu) ≡ None → keeps ≡ kept_of mark number c t)
    → keeps ≡ kept_on rows mark number c t
opened_kept rows mark number c t apdu keeps said refused passed =
    by_first (first_failing (opened_checks rows number c t apdu)) refl ∙ sym whole where
      from_checks : Option Verdict → Kept
      from_checks first = if is_some first then None else kept_of mark number c t

      whole : kept_on rows mark number c t ≡ from_checks (first_failing (opened_checks rows number c t apdu))
      whole = λ i. from_checks (first_failing (unless_opened (said i) (codes_in (key_on rows c) number t)
          ∷ opened_checks rows number c t (said_by_opened rows number c t apdu said i)))

      by_first : (first : Option Verdict) → first_failing (opened_checks rows number c t apdu) ≡ first
          → keeps ≡ from_checks (first_failing (opened_checks rows number c t apdu))
      by_first None is = passed is ∙ sym (ap from_checks is)
      by_first (Some failed) is = refused failed is ∙ sym (ap from_checks is)
