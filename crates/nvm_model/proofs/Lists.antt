-- Writes over a list of octets, and lists of writes one after another.
use Rattle.std.proofs.Common.{◌≡◌, ℕ, ◌+◌, ◌<◌, ◌≤◌, List, [], ◌∷◌, ◌++◌, length, Option, None, Some, slice_index, refl, ap, ◌∙◌, inl, inr, arith}
use Rattle.std.proofs.lemmas.Grind.{common_steps}
use Rattle.nvm_model.specs.Write.{Write, put, written, Torn, TornBy, Reached, PartWritten}
use Rattle.nvm_model.specs.Plan.{Struck, and_then, strike_one, strike, unarmed}
use Rattle.nvm_model.specs.declared.fault.NvmFault.{NvmFault}
use Rattle.nvm_model.specs.declared.plan.Plan.{Plan}

-- a whole write keeps the size
pub length-put : (w : Write) (octets : List ℕ) → w.at + length w.bytes ≤ length octets
    → length (put w octets) ≡ length octets
length-put w octets inside = grind (arith, common_steps)

pub put_before : (w : Write) (octets : List ℕ) (k : ℕ) → w.at + length w.bytes ≤ length octets → k < w.at
    → slice_index (put w octets) k ≡ slice_index octets k
put_before w octets k inside before = grind (arith, common_steps)

pub put_after : (w : Write) (octets : List ℕ) (k : ℕ) → w.at + length w.bytes ≤ length octets
    → w.at + length w.bytes ≤ k → slice_index (put w octets) k ≡ slice_index octets k
put_after w octets k inside after = grind (arith, common_steps)

pub put_inside : (w : Write) (octets : List ℕ) (k : ℕ) → w.at + length w.bytes ≤ length octets → k < length w.bytes
    → slice_index (put w octets) (w.at + k) ≡ slice_index w.bytes k
put_inside w octets k inside in_range = grind (arith, common_steps)

-- a whole write is one way to tear it
pub torn_put : (w : Write) (octets : List ℕ) → w.at + length w.bytes ≤ length octets → TornBy w octets (put w octets)
torn_put w octets inside = record {
  size = length-put w octets inside;
  before = λ k h. put_before w octets k inside h;
  after = λ k h. put_after w octets k inside h;
}

pub torn_same : (at n : ℕ) (octets : List ℕ) → Torn at n octets octets
torn_same at n octets = record { size = refl; before = λ k _. refl; after = λ k _. refl }

-- torn twice, in ranges inside one
pub torn_twice : {at n at' n' to m : ℕ} {a b c : List ℕ} → Torn at n a b → Torn at' n' b c
    → to ≤ at → at + n ≤ to + m → to ≤ at' → at' + n' ≤ to + m → Torn to m a c
torn_twice first then low high low' high' = record {
  size = then.size ∙ first.size;
  before = λ k h. then.before k (omega arith) ∙ first.before k (omega arith);
  after = λ k h. then.after k (omega arith) ∙ first.after k (omega arith);
}

-- torn in a part of a range
pub torn_within : {at n to m : ℕ} {a b : List ℕ} → Torn at n a b → to ≤ at → at + n ≤ to + m → Torn to m a b
torn_within torn low high = record {
  size = torn.size;
  before = λ k h. torn.before k (omega arith);
  after = λ k h. torn.after k (omega arith);
}

pub written-append : (xs ys : List Write) (octets : List ℕ) → written (xs ++ ys) octets ≡ written ys (written xs octets)
written-append [] ys octets = refl
written-append (w ∷ xs) ys octets = written-append xs ys (put w octets)

pub reached_front : (xs ys : List Write) (a c : List ℕ) → Reached xs a c → Reached (xs ++ ys) a c
reached_front [] [] a c is = is
reached_front [] (y ∷ ys) a c is = inl (record {
  size = ap length is;
  before = λ k _. ap (λ o. slice_index o k) is;
  after = λ k _. ap (λ o. slice_index o k) is;
})
reached_front (w ∷ xs) ys a c (inl torn) = inl torn
reached_front (w ∷ xs) ys a c (inr later) = inr (reached_front xs ys (put w a) c later)

pub reached_back : (xs ys : List Write) (a c : List ℕ) → Reached ys (written xs a) c → Reached (xs ++ ys) a c
reached_back [] ys a c reached = reached
reached_back (w ∷ xs) ys a c reached = inr (reached_back xs ys (put w a) c reached)

pub part_front : (xs ys : List Write) (a c : List ℕ) → PartWritten xs a c → PartWritten (xs ++ ys) a c
part_front [] ys a c part = absurd part
part_front (w ∷ xs) ys a c (inl torn) = inl torn
part_front (w ∷ xs) ys a c (inr later) = inr (part_front xs ys (put w a) c later)

pub part_back : (xs ys : List Write) (a c : List ℕ) → PartWritten ys (written xs a) c → PartWritten (xs ++ ys) a c
part_back [] ys a c part = part
part_back (w ∷ xs) ys a c part = inr (part_back xs ys (put w a) c part)

-- what a fault leaves is a moment of the writes
pub reached_part : (xs : List Write) (a c : List ℕ) → PartWritten xs a c → Reached xs a c
reached_part [] a c part = absurd part
reached_part (w ∷ xs) a c (inl torn) = inl torn
reached_part (w ∷ xs) a c (inr later) = inr (reached_part xs (put w a) c later)

-- and so is what Ok leaves
pub reached_whole : (xs : List Write) (a : List ℕ) → Reached xs a (written xs a)
reached_whole [] a = refl
reached_whole (w ∷ xs) a = inr (reached_whole xs (put w a))

and_then_again : (answer : Option NvmFault) (octets : List ℕ) (plan : Plan) (both first next : Plan → List ℕ → Struck)
    → ((p : Plan) (o : List ℕ) → both p o ≡ and_then (first p o) next)
    → and_then (record { answer = answer; octets = octets; plan = plan }) both
    ≡ and_then (and_then (record { answer = answer; octets = octets; plan = plan }) first) next
and_then_again None octets plan both first next same = same plan octets
and_then_again (Some fault) octets plan both first next same = refl

-- Strikes compose: of two lists in turn, the second is made where the first is answered Ok.
pub strike-append : (xs ys : List Write) (plan : Plan) (octets : List ℕ)
    → strike (xs ++ ys) plan octets ≡ and_then (strike xs plan octets) (strike ys)
strike-append [] ys plan octets = refl
strike-append (w ∷ xs) ys plan octets =
    let s : Struck = strike_one w plan octets in
    and_then_again s.answer s.octets s.plan (strike (xs ++ ys)) (strike xs) (strike ys) (λ p o. strike-append xs ys p o)

pub and_then_whole : (answer : Option NvmFault) (octets : List ℕ) (plan : Plan) (next : Plan → List ℕ → Struck)
    → None ≡ answer → and_then (record { answer = answer; octets = octets; plan = plan }) next ≡ next plan octets
and_then_whole None octets plan next whole = refl
and_then_whole (Some fault) octets plan next whole = absurd cc

pub and_then_stopped : (answer : Option NvmFault) (octets : List ℕ) (plan : Plan) (next : Plan → List ℕ → Struck)
    (fault : NvmFault)
    → Some fault ≡ answer → and_then (record { answer = answer; octets = octets; plan = plan }) next
    ≡ record { answer = answer; octets = octets; plan = plan }
and_then_stopped None octets plan next fault stopped = absurd cc
and_then_stopped (Some _) octets plan next fault stopped = refl

-- With nothing armed each write is whole.
pub strike_unarmed : (writes : List Write) (octets : List ℕ)
    → strike writes unarmed octets ≡ record { answer = None; octets = written writes octets; plan = unarmed }
strike_unarmed [] octets = refl
strike_unarmed (w ∷ writes) octets = strike_unarmed writes (put w octets)
