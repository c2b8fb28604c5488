-- How a log is read to its end after its front: plumbing for proofs.
use Rattle.std.specs.Prelude.{◌≡◌, ℕ, ◌≤◌, true, List, [], ◌∷◌, ◌++◌, length, drop, IfSome, Result, Ok, Err}
use Rattle.knx_base.specs.Faults.{Rose}
use Rattle.knx_base.specs.Files.{Seen}
use Rattle.text_lines.specs.Reading.{WhereTold, GoesOn, OthersStay, ahead}
use Rattle.frame_file.specs.declared.fault.RecordFault.{RecordFault}
use Rattle.frame_file.specs.declared.fault.RecordFault.TheVariants.{LongFile, ReadFault, NoMemory}
use Rattle.frame_file.specs.Lists.{RecordList, IsOfText, refused_by}
use Rattle.frame_file.specs.Logs.{most_logged, log_of}
use Rattle.frame_file.specs.Lead.{LeadState, LeadIs, may_begin}

-- where the octets that were taken before are such a front, the log is this list
abbrev pub LogIs : Seen → List ℕ → LeadState → RecordList → List ℕ → Type 0
LogIs seen held lead list octets = (front : List ℕ) → LeadIs lead front → may_begin lead.margin ≡ true
    → log_of (front ++ 60 ∷ ahead seen held octets) ≡ list

-- the list of the log; or it is too long; or the files failed; or there was no memory
abbrev pub ReadsLog : Seen → Seen → List ℕ → List ℕ → LeadState → Result RecordList RecordFault → Type 0
ReadsLog seen later held kept lead (Ok list) = GoesOn seen later held kept 0 × (kept ≡ [])
    × (length list.records ≤ most_logged) × IfSome list.refused IsOfText
    × WhereTold seen (λ octets. (drop later.place octets ≡ []) × LogIs seen held lead list octets)
ReadsLog seen later held kept lead (Err LongFile) = GoesOn seen later held kept 0
    × WhereTold seen (λ octets. LogIs seen held lead (refused_by LongFile) octets)
ReadsLog seen later held kept lead (Err ReadFault) =
    (later.told ≡ seen.told) × OthersStay seen later × Rose seen.faults later.faults
ReadsLog seen later held kept lead (Err NoMemory) = GoesOn seen later held kept 0
ReadsLog seen later held kept lead (Err fault) = ⊥
