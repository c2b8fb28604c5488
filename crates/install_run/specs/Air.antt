-- Octets on the air, as nodes and others put them there. This is statement.
use Rattle.std.specs.Prelude.{ℕ, List}
use Rattle.install_run.specs.declared.octets.Octets.{Octets}
use Rattle.install_run.specs.declared.octets.Octets.TheVariants.{Sealed, Injected}

abbrev pub octets_of : Octets → List ℕ
octets_of (Sealed octets) = octets
octets_of (Injected octets) = octets
