-- Plumbing: the names that were opened, by the last one and those before it.
use Rattle.std.specs.Prelude.{ℕ, List, [], ◌∷◌, ◌++◌}
use Rattle.std.specs.String.{string_bytes}
use Rattle.knx_base.specs.declared.openings.Last.{Last}
use Rattle.knx_base.specs.declared.openings.Last.TheVariants.{Nothing, Name}

abbrev pub names_to : Last → List (List ℕ)
names_to Nothing = []
names_to (Name before name) = before.value ++ string_bytes name.value ∷ []
