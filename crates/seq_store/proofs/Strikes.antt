-- A plan strikes writes of a list at one of their moments, or not at all.
use Rattle.std.proofs.Common.{◌≡◌, ◌+◌, ◌≤◌, ℕ, List, [], ◌∷◌, length, Option, None, Some, refl, sym, subst, inl, inr, arith, replicate}
use Rattle.std.proofs.lemmas.List.{length-replicate}
use Rattle.std.proofs.lemmas.List.Elements.{All-head, All-tail}
use Rattle.std.specs.List.{All}
use Rattle.nvm_model.specs.Plan.{strike, and_then, struck_by, due, plan_after, torn_to}
use Rattle.nvm_model.specs.Write.{Write, FitsIn, put, written, Torn, TornBy, Reached}
use Rattle.nvm_model.specs.declared.plan.Plan.{Plan}
use Rattle.nvm_model.proofs.Lists.{torn_put, length-put}

torn_by : (torn : ℕ) (w : Write) (a : List ℕ) → w.at + length w.bytes ≤ length a → TornBy w a (put (torn_to torn w) a)
torn_by torn w a inside =
    let size : length (replicate (length w.bytes) torn) ≡ length w.bytes = length-replicate (length w.bytes) torn in
    subst (λ n. Torn w.at n a (put (torn_to torn w) a)) size (torn_put (torn_to torn w) a (omega (arith, size, inside)))

reached_by : (cut fault : Option ℕ) (w : Write) (ws : List Write) (plan : Plan) (a : List ℕ)
    → w.at + length w.bytes ≤ length a
    → Reached ws (put w a) (strike ws plan (put w a)).octets
    → Reached (w ∷ ws) a (and_then (struck_by cut fault w plan a) (strike ws)).octets
reached_by (Some torn) fault w ws plan a inside again = inl (torn_by torn w a inside)
reached_by None (Some torn) w ws plan a inside again = inl (torn_by torn w a inside)
reached_by None None w ws plan a inside again = inr again

-- What a strike leaves is a moment of the writes,
pub strike_reached : (ws : List Write) (plan : Plan) (a : List ℕ) → All (FitsIn (length a)) ws
    → Reached ws a (strike ws plan a).octets
strike_reached [] plan a fit = refl
strike_reached (w ∷ ws) plan a fit =
    let inside : w.at + length w.bytes ≤ length a = (All-head (FitsIn (length a)) w ws fit).inside in
    reached_by (due plan.cut) (due plan.fault) w ws (plan_after plan) a inside
    (strike_reached ws (plan_after plan) (put w a)
    (subst (λ n. All (FitsIn n) ws) (sym (length-put w a inside)) (All-tail (FitsIn (length a)) w ws fit)))

whole_by : (cut fault : Option ℕ) (w : Write) (ws : List Write) (plan : Plan) (a : List ℕ)
    → ((strike ws plan (put w a)).answer ≡ None → (strike ws plan (put w a)).octets ≡ written ws (put w a))
    → (and_then (struck_by cut fault w plan a) (strike ws)).answer ≡ None
    → (and_then (struck_by cut fault w plan a) (strike ws)).octets ≡ written ws (put w a)
whole_by (Some torn) fault w ws plan a again ok = absurd (cc ok)
whole_by None (Some torn) w ws plan a again ok = absurd (cc ok)
whole_by None None w ws plan a again ok = again ok

-- and all of them where none was struck.
pub strike_whole : (ws : List Write) (plan : Plan) (a : List ℕ) → (strike ws plan a).answer ≡ None
    → (strike ws plan a).octets ≡ written ws a
strike_whole [] plan a ok = refl
strike_whole (w ∷ ws) plan a ok =
    whole_by (due plan.cut) (due plan.fault) w ws (plan_after plan) a (strike_whole ws (plan_after plan) (put w a)) ok
