-- From the line of a refusal to the answer.
use Rattle.std.proofs.Common.{◌≡◌, ◌≢◌, ◌≤◌, ℕ, List, length, arith, Option, refl, subst}
use Rattle.std.specs.Prelude.{codes}
use Rattle.keyring_reader.specs.declared.attribute.Attribute.{Attribute}
use Rattle.keyring_reader.specs.declared.attribute.Attribute.TheVariants.{Created, Signature, Address, Key, IndividualAddress}
use Rattle.keyring_reader.specs.Attributes.{name_of}
use Rattle.frame_file.specs.declared.fault.RecordFault.{RecordFault}
use Rattle.frame_file.specs.declared.fault.RecordFault.TheVariants as record_
use Rattle.knxsec_app.specs.declared.status.Status.{Status}
use Rattle.knxsec_app.specs.declared.status.Status.TheVariants as status
use Rattle.knxsec_app.specs.Answer.{Answers, after}
use Rattle.knxsec_app.specs.Refusing.{refused, frames_reason, EndsList}

pub refused_as : (file reason line : List ℕ) (ended : Status) (old new : Option (List ℕ))
    → line ≡ (refused file reason).report
    → Answers (record { report = line; status = status.Refused }) ended old new
    → Answers (refused file reason) ended old new
refused_as file reason line ended old new is said =
    subst (λ text. Answers (record { report = text; status = status.Refused }) ended old new) is said

pub refused_after : (held file reason line : List ℕ) (ended : Status) (old new : Option (List ℕ))
    → line ≡ (refused file reason).report
    → Answers (after held (record { report = line; status = status.Refused })) ended old new
    → Answers (after held (refused file reason)) ended old new
refused_after held file reason line ended old new is said =
    subst (λ text. Answers (after held (record { report = text; status = status.Refused })) ended old new) is said

-- a report that was ended with the refusal of the records
pub ends_list : (fault : RecordFault) (held line : List ℕ) (ended : Status) (old new : Option (List ℕ))
    → fault ≢ record_.ReadFault → fault ≢ record_.NoMemory
    → line ≡ (refused (codes "frames") (frames_reason fault)).report
    → Answers (after held (record { report = line; status = status.Refused })) ended old new
    → EndsList fault held ended old new
ends_list fault held line ended old new read memory is said =
    by_fault fault read memory (refused_after held (codes "frames") (frames_reason fault) line ended old new is said)
  where
    by_fault : (fault : RecordFault) → fault ≢ record_.ReadFault → fault ≢ record_.NoMemory
        → Answers (after held (refused (codes "frames") (frames_reason fault))) ended old new
        → EndsList fault held ended old new
    by_fault (record_.Line number cause) read memory said = said
    by_fault (record_.LongLine number) read memory said = said
    by_fault (record_.TooMany number) read memory said = said
    by_fault record_.LongFile read memory said = said
    by_fault (record_.Tag fault) read memory said = said
    by_fault (record_.Missing field place) read memory said = said
    by_fault (record_.Time place) read memory said = said
    by_fault (record_.Digits place) read memory said = said
    by_fault record_.ReadFault read memory said = elim (read refl) [ ]
    by_fault record_.NoMemory read memory said = elim (memory refl) [ ]

pub name_short : (attribute : Attribute) → length (name_of attribute) ≤ 20
name_short Created = grind (arith)
name_short Signature = grind (arith)
name_short Address = grind (arith)
name_short Key = grind (arith)
name_short IndividualAddress = grind (arith)
