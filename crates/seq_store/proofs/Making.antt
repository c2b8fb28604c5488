-- The writes of a raise, as the code makes them, and a raise whose read failed.
use Rattle.std.proofs.lemmas.Grind.{common_steps}
use Rattle.std.proofs.Common.{◌≡◌, ℕ, zero, suc, ◌+◌, ◌*◌, ◌^◌, ◌<◌, ◌≤◌, Bool, true, false, List, [], ◌∷◌, length, take, replicate, Option, Some, None, refl, sym, ap, subst, ◌∙◌, arith}
use Rattle.nvm_model.specs.Gate.{is_open, gated_writes}
use Rattle.nvm_model.specs.Nvm.{State, Makes, Reads}
use Rattle.nvm_model.specs.Write.{Write, written}
use Rattle.nvm_model.specs.declared.fault.NvmFault.{NvmFault}
use Rattle.nvm_model.proofs.Runs.{makes_not_read}
use Rattle.seq_store.specs.Layout.{width, value_of, raise_writes}
use Rattle.seq_store.specs.Laws.{IsRaised, MayRaise}
use Rattle.seq_store.specs.Ring.{generation_at, first_shut, records_place, bank_size, open_generation, banks_of, bank_body, record_body, replaced, writes_by, writes_in}
use Rattle.seq_store.specs.declared.bank.Banks.{Banks}
use Rattle.seq_store.proofs.Current.{CurrentOpen, current_open}
use Rattle.seq_store.proofs.RaiseLaws.{raises_whole}
use Rattle.seq_store.proofs.Records.{FirstShut, first_shut_at}
use Rattle.seq_store.proofs.Same.{sixteen}
use Rattle.seq_store.proofs.Sums.{sum_bound}
use Rattle.seq_store.proofs.Turn.{IsOpenBank, opened}

pub record_place : (values current place : ℕ) (a : List ℕ) → current + bank_size width values ≤ length a
    → first_shut width a 16 (records_place values current) ≡ Some place → (place + 8 ≤ length a)
    × (is_open a place ≡ false)
record_place values current place a inside is =
    let range : FirstShut width a 16 (records_place values current) place =
    first_shut_at width a 16 (records_place values current) place is in
    (omega (arith, range.inside, sixteen width, inside), range.shut)

pub writes_record : (lanes v n : ℕ) (a : List ℕ) (banks : Banks) (place : ℕ)
    → banks_of width (1 + lanes) 0 a ≡ Some banks
    → first_shut width a 16 (records_place (1 + lanes) banks.current) ≡ Some place
    → raise_writes lanes a v n ≡ gated_writes place false (record_body width v n)
unfolding raise_writes
writes_record lanes v n a banks place found free =
    ap (writes_in width (1 + lanes) a v n) found ∙ ap (writes_by width (1 + lanes) a v n banks) free

pub writes_bank : (lanes v n : ℕ) (a : List ℕ) (banks : Banks) → banks_of width (1 + lanes) 0 a ≡ Some banks
    → first_shut width a 16 (records_place (1 + lanes) banks.current) ≡ None
    → raise_writes lanes a v n ≡ gated_writes banks.other (is_open a banks.other)
    (bank_body width (1 + lanes) (generation_at a (banks.current + 1) + 1)
    (replaced width (1 + lanes) a banks.current v n))
unfolding raise_writes
writes_bank lanes v n a banks found free =
    ap (writes_in width (1 + lanes) a v n) found ∙ ap (writes_by width (1 + lanes) a v n banks) free

pub small_generation : (lanes : ℕ) (a : List ℕ) (banks : Banks) → lanes ≤ 64
    → banks_of width (1 + lanes) 0 a ≡ Some banks
    → generation_at a (banks.current + 1) + 1 < 2 ^ 64
unfolding banks_of
small_generation lanes a banks lanes_fit found =
    let current : CurrentOpen (open_generation (1 + lanes) a) banks =
    current_open (open_generation (1 + lanes) a) (open_generation (1 + lanes) a) 0 (0 + bank_size width (1 + lanes))
    banks found in
    let bank : IsOpenBank (1 + lanes) a banks.current current.generation =
    opened (1 + lanes) a banks.current current.generation current.is_open in
    omega (arith, bank.enough, bank.generation, sum_bound a banks.current (1 + lanes), lanes_fit)

-- A raise that may be made writes something.
not_none : (lanes v n : ℕ) (a : List ℕ) → MayRaise lanes a v n → raise_writes lanes a v n ≡ [] → ⊥
not_none lanes v n a may none =
    let raised : IsRaised lanes a v n a =
    subst (λ ws. IsRaised lanes a v n (written ws a)) none (raises_whole lanes v n a may).whole in
    let same : may.old ≡ n = cc (sym may.here ∙ raised.here) in
    absurd (omega (arith, same, may.above))

some_writes : {fault : NvmFault} {a b : State} {p q : ℕ → List ℕ → Type 0} (ws : List Write) → (ws ≡ [] → ⊥)
    → Reads (Some fault) a b p q → Makes ws (Some fault) a b p q
some_writes [] some read = absurd (some refl)
some_writes (w ∷ ws) some read = makes_not_read w ws read

pub makes_no_raise : {fault : NvmFault} {a b : State} {p q : ℕ → List ℕ → Type 0} (lanes v n : ℕ)
    → MayRaise lanes a.octets v n → Reads (Some fault) a b p q
    → Makes (raise_writes lanes a.octets v n) (Some fault) a b p q
makes_no_raise {a = a} lanes v n may read =
    some_writes (raise_writes lanes a.octets v n) (not_none lanes v n a.octets may) read

take_zeros : (n m : ℕ) → n ≤ m → take n (replicate {A = ℕ} m 0) ≡ replicate n 0
take_zeros zero m fits = refl
take_zeros (suc n) zero fits = absurd (omega (arith, fits))
take_zeros (suc n) (suc m) fits = ap (λ zeros. 0 ∷ zeros) (take_zeros n m (omega (arith, fits)))

-- zeros of a longer list of zeros
pub zeros_taken : (n m k : ℕ) → k ≤ m → n ≡ k → take n (replicate {A = ℕ} m 0) ≡ replicate k 0
zeros_taken n m k fits is = ap (λ n. take n (replicate {A = ℕ} m 0)) is ∙ take_zeros k m fits
