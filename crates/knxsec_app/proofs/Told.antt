-- Files that are told, and the tables among them.
use Rattle.std.proofs.Common.{◌≡◌, ℕ, ◌≤◌, ◌<◌, Bool, true, false, List, [], length, Option, Some, None, IsSome, Result, Ok, Err, nat_lt, arith, Vec, Global, refl, sym, ap, subst, ◌∙◌}
use Rattle.std.specs.Prelude.{if◌then◌else◌, unwrap_or, codes}
use Rattle.std.specs.Option.{IsSomeAnd, option_map}
use Rattle.std.proofs.lemmas.Bool.Decides.{nat_tests}
use Rattle.knx_base.specs.Files.{File, Seen, Holds, IsThere, octets_named}
use Rattle.text_lines.specs.Reading.{ReadsWhole}
use Rattle.knxsec_app.specs.Answer.{Answer}
use Rattle.knxsec_app.specs.declared.whole_file.WholeFile.{WholeFile}
use Rattle.knxsec_app.specs.Auditing.{most_of, word_of, within}
use Rattle.knxsec_app.specs.Commands.{octets_in}
use Rattle.knxsec_app.specs.Refusing.{refused}

some_of : (found : Option (List ℕ)) → IsSome found → found ≡ Some (unwrap_or found [])
some_of (Some octets) some = refl
some_of None some = absurd cc

-- a file that is there has these octets
pub holds_there : (seen : Seen) (told : List File) (name : List ℕ) → seen.told ≡ Some told → IsThere told name
    → Holds seen name (octets_in told name)
holds_there seen told name is there =
    subst (λ (files : Option (List File)). IsSomeAnd files (λ f. octets_named f name ≡ Some (octets_in told name)))
    (sym is) (some_of (octets_named told name) there)

not_over : (most found : ℕ) → found ≤ most → nat_lt most found ≡ false
not_over most found fits = grind (arith, nat_tests, fits)

is_over : (most found : ℕ) → most < found → nat_lt most found ≡ true
is_over most found more = grind (arith, nat_tests, more)

abbrev by_length : WholeFile → List ℕ → Bool → Result (List ℕ) Answer
by_length file octets over = if over then Err (refused (word_of file) (codes " long")) else Ok octets

-- the whole of a file within its limit
pub text_within : (file : WholeFile) (most : ℕ) (octets : List ℕ) (place : ℕ) (found : Option (Vec ℕ Global))
    (text : Vec ℕ Global) → most ≡ most_of file → found ≡ Some text
    → ReadsWhole most octets place (option_map (λ t. t.items) found) → (within file octets ≡ Ok text.items)
    × (place ≡ length octets)
text_within file most octets place found text is_most is reads =
    let read : ReadsWhole (most_of file) octets place (Some text.items) =
    subst (λ m. ReadsWhole m octets place (Some text.items)) is_most
    (subst (λ f. ReadsWhole most octets place (option_map (λ t. t.items) f)) is reads) in
    (ap (by_length file octets) (not_over (most_of file) (length octets) read.1) ∙ ap Ok (sym read.0), read.2)

-- a file past it
pub text_past : (file : WholeFile) (most : ℕ) (octets : List ℕ) (place : ℕ) (found : Option (Vec ℕ Global))
    → most ≡ most_of file → found ≡ None
    → ReadsWhole most octets place (option_map (λ t. t.items) found)
    → within file octets ≡ Err (refused (word_of file) (codes " long"))
text_past file most octets place found is_most is reads =
    let more : most_of file < length octets = subst (λ m. m < length octets) is_most
    (subst (λ f. ReadsWhole most octets place (option_map (λ t. t.items) f)) is reads) in
    ap (by_length file octets) (is_over (most_of file) (length octets) more)
