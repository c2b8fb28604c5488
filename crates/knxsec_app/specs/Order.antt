-- Statement: in which order a command opens the files that it names.
use Rattle.std.specs.Prelude.{◌≡◌, ◌≢◌, ◌⊎◌, ℕ, List, [], ◌∷◌, ◌++◌, length, Option, Some, None, IsSome}
use Rattle.knx_base.specs.Files.{File, Seen}
use Rattle.knxsec_app.specs.declared.status.Status.{Status}
use Rattle.knxsec_app.specs.Words.{Asked, Open, Audit, AuditKeyring, Replay, Make, AuditValues, Encode}
use Rattle.knxsec_app.specs.Commands.{octets_in, AreFiles, AreRead, AreUnopened, IsServed, IsWhole, OpensJust}

-- the names of the files, in the order of the words
abbrev pub files_of : Option Asked → List (List ℕ)
files_of None = []
files_of (Some (Open key frame)) = []
files_of (Some (Audit tables frames)) = tables ∷ frames ∷ []
files_of (Some (AuditKeyring keyring password tables frames)) = keyring ∷ password ∷ tables ∷ frames ∷ []
files_of (Some (Replay script)) = script ∷ []
files_of (Some (Make number count)) = []
files_of (Some (AuditValues tables types frames)) = tables ∷ types ∷ frames ∷ []
files_of (Some (Encode dpt text)) = []

-- the places in files, by their names, at two moments: none changed
abbrev pub AllStay : (List ℕ → ℕ) → (List ℕ → ℕ) → Type 0
AllStay old new = (other : List ℕ) → new other ≡ old other

-- none changed but in the file of this name
abbrev pub OnlyIn : List ℕ → (List ℕ → ℕ) → (List ℕ → ℕ) → Type 0
OnlyIn name old new = (other : List ℕ) → other ≢ name → new other ≡ old other

-- nothing but the file of this name was read, to its end
pub record ReadsOne (files : List File) (name : List ℕ) (old new : List ℕ → ℕ) : Type 0 where
  pub only : OnlyIn name old new
  pub end : new name ≡ length (octets_in files name)

-- The files of these names were read one after the other, each to its end, and no other.
abbrev pub ReadsInOrder : List File → List (List ℕ) → (List ℕ → ℕ) → (List ℕ → ℕ) → Type 0
ReadsInOrder files [] old new = AllStay old new
ReadsInOrder files (name ∷ names) old new =
    (mid : List ℕ → ℕ) × ReadsOne files name old mid × ReadsInOrder files names mid new

-- The files of these names are opened one after the other, each after the one before was read to its end, and the
-- command may end with any of them. No other was opened.
abbrev pub OpensInOrder : List File → List (List ℕ) → (List ℕ → ℕ) → (List ℕ → ℕ) → Type 0
OpensInOrder files [] old new = AllStay old new
OpensInOrder files (name ∷ names) old new =
    OnlyIn name old new ⊎ ((mid : List ℕ → ℕ) × ReadsOne files name old mid × OpensInOrder files names mid new)

-- some of these files, from the first on, were opened, one after the other, and no other
pub record OpensFront (names : List (List ℕ)) (old new : Seen) : Type 0 where
  pub front : List (List ℕ)
  pub rest : List (List ℕ)
  pub names_are : names ≡ front ++ rest
  pub opens : OpensJust front old new

-- Which files were opened where the files of these names were asked for: whatever the status a front of them, so that
-- none is opened twice that is not named twice; with Done and Alarm all of them.
pub record OpensFiles (names : List (List ℕ)) (status : Status) (old new : Seen) : Type 0 where
  pub told : new.told ≡ old.told
  pub front : IsSome old.told → OpensFront names old new
  pub all : IsWhole status → IsSome old.told → OpensJust names old new

-- What a command does with the files, and how it ended. Whatever the status, they tell the same, and a front of those
-- that the words name was opened and no other, in the order of the words, each after the one before was read to its
-- end. With Done and Alarm all were opened and each was read to its end; after a refusal those up to the refused one
-- and no further, whether or not its line could be written.
pub record UsesFiles (asked : Option Asked) (status : Status) (old new : Seen) : Type 0 where
  pub opens : OpensFiles (files_of asked) status old new
  pub order : (files : List File) → AreFiles asked old files
      → OpensInOrder files (files_of asked) old.places new.places
  pub whole : IsWhole status → (files : List File) → AreFiles asked old files → AreRead asked files new
  pub unopened : IsServed status → (files : List File) → AreFiles asked old files → AreUnopened asked files old new
