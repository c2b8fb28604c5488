-- Which refusals an answer has to tell: none without words, and of merged rows none said twice. This is statement.
use Rattle.std.specs.Prelude.{◌≡◌, ◌≢◌, ℕ, List, IfSome, Ok, Err}
use Rattle.tag_text.specs.declared.tag.TagFault.TheVariants as tag
use Rattle.key_tables.specs.declared.types.Row.{Row}
use Rattle.key_tables.specs.declared.faults.BuildFault.{BuildFault}
use Rattle.key_tables.specs.declared.faults.BuildFault.TheVariants.{TooMany}
use Rattle.key_tables.specs.declared.faults.TablesFault.TheVariants as tables
use Rattle.key_tables.specs.Build.{build_fault, merged}
use Rattle.key_tables.specs.Text.{tables_of}
use Rattle.keyring_reader.specs.declared.fault.KeyringFault.TheVariants as keyring
use Rattle.keyring_reader.specs.Keyring.{keyring_of}
use Rattle.script_text.specs.declared.fault.ScriptFault.TheVariants as script
use Rattle.script_text.specs.Text.{script_of}
use Rattle.datapoints.specs.declared.types.TypesFault.TheVariants as types
use Rattle.datapoints.specs.Types.{types_of}
use Rattle.frame_file.specs.Lists.{IsOfText}
use Rattle.frame_file.specs.Records.{records_of}

-- too many rows, and no row said twice
abbrev pub IsMany : BuildFault → Type 0
IsMany (TooMany place) = Unit {0}
IsMany _ = ⊥

-- A keyring is refused neither for want of memory nor because its document wants memory.
pub record NeverWants (octets password : List ℕ) : Type 0 where
  pub memory : keyring_of octets password ≢ Err keyring.NoMemory
  pub tag_memory : keyring_of octets password ≢ Err (keyring.Tag tag.NoMemory)

-- Whatever the files hold, what they say is refused for a reason that has words: want of memory, which has none, is the
-- answer to no text, nor is a fault of reading. And where rows of tables are laid over those of a keyring, no row is
-- said twice: what is told as `many` is that there are too many.
pub record HaveReasons : Type 0 where
  pub tables : (text : List ℕ) → tables_of text ≢ Err tables.NoMemory
  pub types : (text : List ℕ) → types_of text ≢ Err types.NoMemory
  pub script : (text : List ℕ) → script_of text ≢ Err script.NoMemory
  pub frames : (octets : List ℕ) → IfSome (records_of octets).refused IsOfText
  pub keyring : (octets password : List ℕ) → NeverWants octets password
  pub many : (text octets password : List ℕ) (over under : List Row) → tables_of text ≡ Ok over
      → keyring_of octets password ≡ Ok under → IfSome (build_fault (merged over under)) IsMany
