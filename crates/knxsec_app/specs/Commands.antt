-- Statement: the answer of a whole command, as a function of its words and files.
use Rattle.std.specs.Prelude.{◌≡◌, ◌≢◌, ℕ, List, [], ◌∷◌, ◌++◌, length, codes, Option, Some, None, unwrap_or, Ok, IsOk, IsErr}
use Rattle.knx_base.specs.Files.{File, Seen, IsThere, octets_named}
use Rattle.judge_rules.specs.declared.verdict.Verdict.{Verdict}
use Rattle.judge_rules.specs.Text.{verdict_text}
use Rattle.key_tables.specs.declared.types.Row.{Row}
use Rattle.script_text.specs.Script.{ScriptState}
use Rattle.script_text.specs.Made.{made_script}
use Rattle.install_run.specs.World.{WorldState}
use Rattle.knxsec_app.specs.declared.status.Status.{Status}
use Rattle.knxsec_app.specs.declared.status.Status.TheVariants.{Done, Alarm, Usage, ReadFault, NoMemory}
use Rattle.knxsec_app.specs.declared.whole_file.WholeFile.TheVariants.{Keyring}
use Rattle.knxsec_app.specs.Words.{Asked, Open, Audit, AuditKeyring, Replay, Make, AuditValues, Encode, command_of}
use Rattle.knxsec_app.specs.Answer.{Answer}
use Rattle.knxsec_app.specs.Opening.{refusal_of, apdu_of}
use Rattle.knxsec_app.specs.Replaying.{IsPlayed, replay_answer, make_answer, script_in}
use Rattle.knxsec_app.specs.Auditing.{within, installation, keyring_rows, audit_answer, keyring_answer}
use Rattle.knxsec_app.specs.Values.{types_in, values_answer}
use Rattle.knxsec_app.specs.Encoding.{apdu_answer, encoding_answer}

-- printed where the words are of no form
abbrev pub usage_line : List ℕ
usage_line =
    codes "usage: knxsec open KEYHEX FRAMEHEX | audit TABLES FRAMES | audit-keyring KEYRING PASSWORDFILE TABLES FRAMES | replay SCRIPT | make NUMBER COUNT | audit-values TABLES TYPES FRAMES | encode TYPE TEXT\n"

-- the APDU in hexadecimal, or the verdict
abbrev pub opening_answer : Option Verdict → List ℕ → Answer
opening_answer None apdu = apdu_answer apdu
opening_answer (Some verdict) apdu = record { report = verdict_text verdict [] ++ 10 ∷ []; status = Alarm }

-- the octets of the file of this name
abbrev pub octets_in : List File → List ℕ → List ℕ
octets_in files name = unwrap_or (octets_named files name) []

-- the answer to what was asked, where these are the files
abbrev pub answer_to : Option Asked → List File → Answer
answer_to None files = record { report = usage_line; status = Usage }
answer_to (Some (Open key frame)) files = opening_answer (refusal_of key frame) (apdu_of key frame)
answer_to (Some (Audit tables frames)) files = audit_answer (octets_in files tables) (octets_in files frames)
answer_to (Some (AuditKeyring keyring password tables frames)) files =
    keyring_answer (octets_in files keyring) (octets_in files password) (octets_in files tables)
    (octets_in files frames)
answer_to (Some (Replay script)) files = replay_answer (octets_in files script)
answer_to (Some (Make number count)) files = make_answer number count
answer_to (Some (AuditValues tables types frames)) files =
    values_answer (octets_in files tables) (octets_in files types) (octets_in files frames)
answer_to (Some (Encode dpt text)) files = encoding_answer dpt text

-- the answer to the words, where these are the files
abbrev pub answer_of : List (List ℕ) → List File → Answer
answer_of words files = answer_to (command_of words) files

-- the command names no file
abbrev pub NamesNoFile : Option Asked → Type 0
NamesNoFile None = Unit {0}
NamesNoFile (Some (Open key frame)) = Unit {0}
NamesNoFile (Some (Audit tables frames)) = ⊥
NamesNoFile (Some (AuditKeyring keyring password tables frames)) = ⊥
NamesNoFile (Some (Replay script)) = ⊥
NamesNoFile (Some (Make number count)) = Unit {0}
NamesNoFile (Some (AuditValues tables types frames)) = ⊥
NamesNoFile (Some (Encode dpt text)) = Unit {0}

-- each file that the command names is one of these
abbrev pub AreThere : Option Asked → List File → Type 0
AreThere None files = Unit {0}
AreThere (Some (Open key frame)) files = Unit {0}
AreThere (Some (Audit tables frames)) files = IsThere files tables × IsThere files frames
AreThere (Some (AuditKeyring keyring password tables frames)) files =
    IsThere files keyring × IsThere files password × IsThere files tables × IsThere files frames
AreThere (Some (Replay script)) files = IsThere files script
AreThere (Some (Make number count)) files = Unit {0}
AreThere (Some (AuditValues tables types frames)) files =
    IsThere files tables × IsThere files types × IsThere files frames
AreThere (Some (Encode dpt text)) files = Unit {0}

-- these are the files, as far as the command names any
abbrev pub AreFiles : Option Asked → Seen → List File → Type 0
AreFiles None seen files = Unit {0}
AreFiles (Some (Open key frame)) seen files = Unit {0}
AreFiles (Some (Audit tables frames)) seen files = seen.told ≡ Some files
AreFiles (Some (AuditKeyring keyring password tables frames)) seen files = seen.told ≡ Some files
AreFiles (Some (Replay script)) seen files = seen.told ≡ Some files
AreFiles (Some (Make number count)) seen files = Unit {0}
AreFiles (Some (AuditValues tables types frames)) seen files = seen.told ≡ Some files
AreFiles (Some (Encode dpt text)) seen files = Unit {0}

-- the file of this name was read to its end
abbrev pub IsRead : List File → Seen → List ℕ → Type 0
IsRead files seen name = seen.places name ≡ length (octets_in files name)

-- each file that the command names was read to its end
abbrev pub AreRead : Option Asked → List File → Seen → Type 0
AreRead None files seen = Unit {0}
AreRead (Some (Open key frame)) files seen = Unit {0}
AreRead (Some (Audit tables frames)) files seen = IsRead files seen tables × IsRead files seen frames
AreRead (Some (AuditKeyring keyring password tables frames)) files seen =
    IsRead files seen keyring × IsRead files seen password × IsRead files seen tables × IsRead files seen frames
AreRead (Some (Replay script)) files seen = IsRead files seen script
AreRead (Some (Make number count)) files seen = Unit {0}
AreRead (Some (AuditValues tables types frames)) files seen =
    IsRead files seen tables × IsRead files seen types × IsRead files seen frames
AreRead (Some (Encode dpt text)) files seen = Unit {0}

abbrev pub Stays : Seen → Seen → List ℕ → Type 0
Stays old new name = new.places name ≡ old.places name

-- this name is none of these
abbrev pub IsNoneOf : List (List ℕ) → List ℕ → Type 0
IsNoneOf [] other = Unit {0}
IsNoneOf (name ∷ names) other = (other ≢ name) × IsNoneOf names other

-- the files of these names were opened, one after the other, and no other: its place is as before
pub record OpensJust (names : List (List ℕ)) (old new : Seen) : Type 0 where
  pub opened : new.opened ≡ old.opened ++ names
  pub others : (other : List ℕ) → IsNoneOf names other → Stays old new other

-- After a refusal the files were opened up to the one that is refused, and no further one.
abbrev pub AreUnopened : Option Asked → List File → Seen → Seen → Type 0
AreUnopened None files old new = Unit {0}
AreUnopened (Some (Open key frame)) files old new = Unit {0}
AreUnopened (Some (Audit tables frames)) files old new =
    IsErr (installation None (octets_in files tables)) → OpensJust (tables ∷ []) old new
AreUnopened (Some (AuditKeyring keyring password tables frames)) files old new =
    (IsErr (within Keyring (octets_in files keyring)) → OpensJust (keyring ∷ []) old new)
    × (IsOk (within Keyring (octets_in files keyring))
    → IsErr (keyring_rows (octets_in files keyring) (octets_in files password))
    → OpensJust (keyring ∷ password ∷ []) old new)
    × ((rows : List Row) → keyring_rows (octets_in files keyring) (octets_in files password) ≡ Ok rows
    → IsErr (installation (Some rows) (octets_in files tables)) → OpensJust (keyring ∷ password ∷ tables ∷ []) old new)
AreUnopened (Some (Replay script)) files old new = OpensJust (script ∷ []) old new
AreUnopened (Some (Make number count)) files old new = Unit {0}
AreUnopened (Some (AuditValues tables types frames)) files old new =
    (IsErr (installation None (octets_in files tables)) → OpensJust (tables ∷ []) old new)
    × (IsOk (installation None (octets_in files tables)) → IsErr (types_in (octets_in files types))
    → OpensJust (tables ∷ types ∷ []) old new)
AreUnopened (Some (Encode dpt text)) files old new = Unit {0}

-- the report was written to its end after all files were read
abbrev pub IsWhole : Status → Type 0
IsWhole Done = Unit {0}
IsWhole Alarm = Unit {0}
IsWhole _ = ⊥

-- neither the files nor memory failed the command
abbrev pub IsServed : Status → Type 0
IsServed ReadFault = ⊥
IsServed NoMemory = ⊥
IsServed _ = Unit {0}

-- the command takes no memory
abbrev pub TakesNoMemory : Option Asked → Type 0
TakesNoMemory None = Unit {0}
TakesNoMemory (Some (Open key frame)) = Unit {0}
TakesNoMemory (Some (Audit tables frames)) = ⊥
TakesNoMemory (Some (AuditKeyring keyring password tables frames)) = ⊥
TakesNoMemory (Some (Replay script)) = ⊥
TakesNoMemory (Some (Make number count)) = ⊥
TakesNoMemory (Some (AuditValues tables types frames)) = ⊥
TakesNoMemory (Some (Encode dpt text)) = Unit {0}

-- A command that names no file leaves the files alone; one that takes no memory is never answered for want of it.
pub record LeavesAlone (asked : Option Asked) (status : Status) (same_files : Type 0) : Type 0 where
  pub unread : NamesNoFile asked → same_files
  pub no_fault : NamesNoFile asked → status ≢ ReadFault
  pub memory : TakesNoMemory asked → status ≢ NoMemory

-- ---- what was played

-- the command steps an installation through a script, which is this one where these are the files
abbrev pub Steps : Option Asked → List File → ScriptState → Type 0
Steps None files s = ⊥
Steps (Some (Open key frame)) files s = ⊥
Steps (Some (Audit tables frames)) files s = ⊥
Steps (Some (AuditKeyring keyring password tables frames)) files s = ⊥
Steps (Some (Replay script)) files s = script_in (octets_in files script) ≡ Ok s
Steps (Some (Make number count)) files s = s ≡ made_script number count
Steps (Some (AuditValues tables types frames)) files s = ⊥
Steps (Some (Encode dpt text)) files s = ⊥

-- the command steps an installation
abbrev pub StepsSome : Option Asked → Type 0
StepsSome None = ⊥
StepsSome (Some (Open key frame)) = ⊥
StepsSome (Some (Audit tables frames)) = ⊥
StepsSome (Some (AuditKeyring keyring password tables frames)) = ⊥
StepsSome (Some (Replay script)) = Unit {0}
StepsSome (Some (Make number count)) = Unit {0}
StepsSome (Some (AuditValues tables types frames)) = ⊥
StepsSome (Some (Encode dpt text)) = ⊥

-- a world went through the script that the command names
pub record PlayedIn (asked : Option Asked) (files : List File) (played : Option WorldState) : Type 0 where
  pub script : ScriptState
  pub steps : Steps asked files script
  pub is_played : IsPlayed script played

-- Where all is done a command that steps an installation leaves the world that it stepped. Else what was played is as
-- before.
pub record Plays (asked : Option Asked) (seen : Seen) (status : Status) (old new : Option WorldState) : Type 0 where
  pub played : StepsSome asked → status ≡ Done → (files : List File) → AreFiles asked seen files
      → PlayedIn asked files new
  pub unplayed : (StepsSome asked → status ≡ Done → ⊥) → new ≡ old
