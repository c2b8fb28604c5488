-- What is armed strikes once: by the writes of a strike.
use Rattle.std.specs.Option.{is_some}
use Rattle.std.proofs.Common.{◌≡◌, ◌≢◌, ℕ, ◌-◌, List, [], ◌∷◌, Bool, true, false, Option, Some, None, refl, ap, ◌∙◌}
use Rattle.std.specs.Prelude.{◌==◌, if◌then◌else◌}
use Rattle.nvm_model.specs.Plan.{Struck, due, lessened, plan_after, struck_by, strike_one, and_then, strike}
use Rattle.nvm_model.specs.Write.{Write}
use Rattle.nvm_model.specs.declared.fault.NvmFault.{NvmFault}
use Rattle.nvm_model.specs.declared.fault.NvmFault.TheVariants.{Failed, Cut}
use Rattle.nvm_model.specs.declared.plan.Armed.{Armed}
use Rattle.nvm_model.specs.declared.plan.Plan.{Plan}

-- ---- one write

-- Where nothing is armed nothing is due, what is due is armed no more, and what is not stays armed.
record Lessens (old : Option Armed) (torn : Option ℕ) (new : Option Armed) : Type 0 where
  none_due : old ≡ None → torn ≡ None
  none_left : old ≡ None → new ≡ None
  struck : (octet : ℕ) → torn ≡ Some octet → new ≡ None
  kept : torn ≡ None → is_some new ≡ is_some old

lessens_where : (now : Bool) (armed : Armed)
    → Lessens (Some armed) (if now then Some armed.torn else None)
    (if now then None else Some (record armed { writes = armed.writes - 1 }))
lessens_where true armed =
    record { none_due = λ is. absurd cc; none_left = λ is. refl; struck = λ octet is. refl; kept = λ is. absurd cc }
lessens_where false armed =
    record { none_due = λ is. refl; none_left = λ is. absurd cc; struck = λ octet is. absurd cc; kept = λ is. refl }

lessens : (old : Option Armed) → Lessens old (due old) (lessened old)
lessens None =
    record { none_due = λ is. refl; none_left = λ is. refl; struck = λ octet is. refl; kept = λ is. refl }
lessens (Some armed) = lessens_where (armed.writes - 1 == 0) armed

-- ---- some writes

-- Only what is armed strikes, and then it is armed no more; a cut that does not strike stays armed.
pub record Disarms (old : Plan) (answer : Option NvmFault) (new : Plan) : Type 0 where
  pub no_cut : old.cut ≡ None → answer ≢ Some Cut
  pub no_fault : old.fault ≡ None → answer ≢ Some Failed
  pub cut_kept : answer ≢ Some Cut → is_some new.cut ≡ is_some old.cut
  pub fault_none : old.fault ≡ None → new.fault ≡ None
  pub cut_struck : answer ≡ Some Cut → new.cut ≡ None
  pub fault_struck : answer ≡ Some Failed → new.fault ≡ None

one_disarms : (torn failed : Option ℕ) (w : Write) (old new : Plan) (octets : List ℕ) → Lessens old.cut torn new.cut
    → Lessens old.fault failed new.fault
    → (let s = struck_by torn failed w new octets in Disarms old s.answer s.plan)
one_disarms (Some octet) failed w old new octets cut fault = record {
  no_cut = λ none is. let some : Some octet ≡ None = cut.none_due none in absurd cc;
  no_fault = λ none is. absurd cc;
  cut_kept = λ other. absurd (other refl);
  fault_none = fault.none_left;
  cut_struck = λ is. cut.struck octet refl;
  fault_struck = λ is. absurd cc;
}
one_disarms None (Some octet) w old new octets cut fault = record {
  no_cut = λ none is. absurd cc;
  no_fault = λ none is. let some : Some octet ≡ None = fault.none_due none in absurd cc;
  cut_kept = λ other. cut.kept refl;
  fault_none = fault.none_left;
  cut_struck = λ is. absurd cc;
  fault_struck = λ is. fault.struck octet refl;
}
one_disarms None None w old new octets cut fault = record {
  no_cut = λ none is. absurd cc;
  no_fault = λ none is. absurd cc;
  cut_kept = λ other. cut.kept refl;
  fault_none = fault.none_left;
  cut_struck = λ is. absurd cc;
  fault_struck = λ is. absurd cc;
}

none_by : {A : Type 0} (o : Option A) → is_some o ≡ false → o ≡ None
none_by None is = refl
none_by (Some x) is = absurd cc

-- the first, and the others where it is whole
more_disarm : (old mid : Plan) (answer : Option NvmFault) (octets : List ℕ) (next : Plan → List ℕ → Struck)
    → Disarms old answer mid
    → ((plan : Plan) (octets : List ℕ) → Disarms plan (next plan octets).answer (next plan octets).plan)
    → (let s = and_then (record { answer = answer; octets = octets; plan = mid }) next in Disarms old s.answer s.plan)
more_disarm old mid None octets next first others =
    let rest = others mid octets in
    record {
      no_cut = λ none. rest.no_cut (none_by mid.cut (first.cut_kept (λ is. absurd cc) ∙ ap is_some none));
      no_fault = λ none. rest.no_fault (first.fault_none none);
      cut_kept = λ other. rest.cut_kept other ∙ first.cut_kept (λ is. absurd cc);
      fault_none = λ none. rest.fault_none (first.fault_none none);
      cut_struck = rest.cut_struck;
      fault_struck = rest.fault_struck;
    }
more_disarm old mid (Some f) octets next first others = first

pub disarms : (writes : List Write) (plan : Plan) (octets : List ℕ)
    → (let s = strike writes plan octets in Disarms plan s.answer s.plan)
disarms [] plan octets = record {
  no_cut = λ none is. absurd cc;
  no_fault = λ none is. absurd cc;
  cut_kept = λ other. refl;
  fault_none = λ none. none;
  cut_struck = λ is. absurd cc;
  fault_struck = λ is. absurd cc;
}
disarms (w ∷ writes) plan octets =
    let s = strike_one w plan octets in
    more_disarm plan s.plan s.answer s.octets (strike writes)
    (one_disarms (due plan.cut) (due plan.fault) w plan (plan_after plan) octets (lessens plan.cut)
    (lessens plan.fault))
    (disarms writes)
