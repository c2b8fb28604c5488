-- What is refused is refused for a reason that has words, and merged rows for their number alone.
use Rattle.std.proofs.Common.{◌≢◌, ℕ, List, [], Option, Some, None, IfSome, refl}
use Rattle.key_tables.specs.declared.types.Row.{Row}
use Rattle.key_tables.specs.declared.faults.BuildFault.{BuildFault}
use Rattle.key_tables.specs.declared.faults.BuildFault.TheVariants.{Twice, TooMany, NoMemory}
use Rattle.key_tables.specs.Build.{row_fault, build_fault, merged, IsFault, NoneTwice}
use Rattle.key_tables.proofs.Standing.{merged_never_twice}
use Rattle.knxsec_app.specs.Reasons.{IsMany, HaveReasons}
use Rattle.knxsec_app.proofs.Firsts.{first_is}
use Rattle.knxsec_app.proofs.TablesReasons.{IsOfRow, row_fault_is}
use Rattle.knxsec_app.proofs.TablesReasons as tables
use Rattle.knxsec_app.proofs.TablesOnce.{tables_once}
use Rattle.knxsec_app.proofs.TypesReasons as types
use Rattle.knxsec_app.proofs.ScriptReasons as script
use Rattle.knxsec_app.proofs.FramesReasons as frames
use Rattle.knxsec_app.proofs.KeyringReasons as keyring
use Rattle.knxsec_app.proofs.KeyringOnce.{keyring_once}

is_many : (found : Option BuildFault) → IfSome found IsOfRow
    → ((why : BuildFault) → IsFault why found → (place : ℕ) → why ≢ Twice place) → IfSome found IsMany
is_many None is never = tt
is_many (Some (Twice place)) is never = absurd (never (Twice place) refl place refl)
is_many (Some (TooMany place)) is never = tt
is_many (Some NoMemory) is never = absurd is

built_is : (rows : List Row) → IfSome (build_fault rows) IsOfRow
unfolding build_fault
built_is rows = first_is IsOfRow row_fault row_fault_is [] rows

merged_many : (over under : List Row) → NoneTwice over → NoneTwice under
    → IfSome (build_fault (merged over under)) IsMany
merged_many over under once_over once_under =
    is_many (build_fault (merged over under)) (built_is (merged over under))
    (λ why told. merged_never_twice over under why told once_over once_under)

pub have_reasons : HaveReasons
have_reasons = record {
  tables = tables.no_memory;
  types = types.no_memory;
  script = script.no_memory;
  frames = frames.of_text;
  keyring = λ octets password. record {
    memory = keyring.no_memory octets password;
    tag_memory = keyring.no_tag_memory octets password;
  };
  many = λ text octets password over under is under_is.
      merged_many over under (tables_once text over is) (keyring_once octets password under under_is);
}
