-- The writes of a slice of pieces, in turn.
use Rattle.std.proofs.Common.{◌≡◌, ℕ, ◌+◌, ◌<◌, List, [], ◌∷◌, ◌++◌, length, get_or, take, drop, map, None, Some, sym, ap, subst, ◌∙◌}
use Rattle.std.proofs.lemmas.List.{map_more, map-append, take-append-drop}
use Rattle.nvm_model.specs.Write.{Write}
use Rattle.nvm_model.specs.Plan.{and_then, strike}
use Rattle.nvm_model.specs.declared.plan.Plan.{Plan}
use Rattle.nvm_model.proofs.Lists.{strike-append}
use Rattle.nvm_model.specs.Piece.{write_of}
use Rattle.nvm_model.specs.Nvm.{State, Makes}
use Rattle.nvm_model.specs.declared.turns.Piece.{Piece}
use Rattle.nvm_model.specs.declared.fault.NvmFault.{NvmFault}
use Rattle.nvm_model.proofs.Runs.{makes_goes_on, makes_stops}

-- one more piece that was written whole
pub makes_more : {a b c : State} {p q r : ℕ → List ℕ → Type 0} (first : Write) (rest : List Piece) (i : ℕ) (d : Piece)
    → i < length rest
    → Makes (first ∷ map write_of (take i rest)) None a b p q → Makes (write_of (get_or rest i d) ∷ []) None b c q r
    → Makes (first ∷ map write_of (take (i + 1) rest)) None a c p r
makes_more {a = a} {c = c} {p = p} {r = r} first rest i d inside before this =
    subst (λ (writes : List Write). Makes (first ∷ writes) None a c p r) (sym (map_more write_of rest i d inside))
    (makes_goes_on before this)

-- the pieces up to one that was not answered Ok, and those after it
pub makes_no_more : {a b c : State} {p q r : ℕ → List ℕ → Type 0} {fault : NvmFault} (first : Write) (rest : List Piece)
    (i : ℕ) (d : Piece) → i < length rest
    → Makes (first ∷ map write_of (take i rest)) None a b p q
    → Makes (write_of (get_or rest i d) ∷ []) (Some fault) b c q r
    → Makes (first ∷ map write_of rest) (Some fault) a c p r
makes_no_more {a = a} {c = c} {p = p} {r = r} {fault = fault} first rest i d inside before this =
    let all : (map write_of (take i rest) ++ write_of (get_or rest i d) ∷ [])
    ++ map write_of (drop (i + 1) rest) ≡ map write_of rest =
    ap (λ (writes : List Write). writes ++ map write_of (drop (i + 1) rest)) (sym (map_more write_of rest i d inside))
    ∙ sym (map-append write_of (take (i + 1) rest) (drop (i + 1) rest))
    ∙ ap (map write_of) (take-append-drop (i + 1) rest) in
    subst (λ (writes : List Write). Makes (first ∷ writes) (Some fault) a c p r) all
    (makes_stops (map write_of (drop (i + 1) rest)) (makes_goes_on before this))

-- the strike of writes that are divided
pub strike_divided : (writes front behind : List Write) (plan : Plan) (octets : List ℕ) → front ++ behind ≡ writes
    → strike writes plan octets ≡ and_then (strike front plan octets) (strike behind)
strike_divided writes front behind plan octets is =
    ap (λ (writes : List Write). strike writes plan octets) (sym is) ∙ strike-append front behind plan octets
