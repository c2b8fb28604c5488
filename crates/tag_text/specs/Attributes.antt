-- Statement: the attributes of a tag: names with values, in order of appearance.
use Rattle.std.specs.Prelude.{ℕ, Bool, true, false, if◌then◌else◌, List, [], ◌∷◌, find, Option}
use Rattle.std.specs.Option.{option_map}
use Rattle.std.specs.List.{list_any}
use Rattle.std.specs.Str.{bytes_eq}

-- the value of the first attribute of this name
abbrev pub value_named : List (List ℕ × List ℕ) → List ℕ → Option (List ℕ)
value_named attributes name =
    option_map (λ attribute. attribute.1) (find (λ attribute. bytes_eq attribute.0 name) attributes)

-- no two attributes have one name
abbrev pub are_distinct : List (List ℕ × List ℕ) → Bool
are_distinct [] = true
are_distinct (attribute ∷ attributes) =
    if list_any (λ other. bytes_eq other.0 attribute.0) attributes then false else are_distinct attributes
