-- Sealing over plain lists: the code is four octets, and what is on the wire gives back what was put there.
use Rattle.std.proofs.Common.{◌≡◌, ℕ, ◌+◌, ◌-◌, ◌≤◌, Bool, true, false, cond, List, [], ◌∷◌, ◌++◌, length, take, drop, refl, sym, ap, ◌∙◌, subst, append_assoc, take-append-drop, length-append, length-drop, arith}
use Rattle.std.proofs.lemmas.List.{take_at, drop_at, take_rest, length-take, length-take-le}
use Rattle.std.proofs.lemmas.Slice.Eq.{bytes_eq-Decides}
use Rattle.std.specs.Prelude.{◌↔◌, nat_eq, Some, None}
use Rattle.std.specs.Cmp.Lexicographic.{pointwise}
use Rattle.std.proofs.Math.Seq.{take-append_seam, drop-append_seam}
use Rattle.aes_modes.specs.Modes.{mac_of, with_stream}
use Rattle.aes_modes.proofs.Streams.{length-with_stream, with_stream-twice}
use Rattle.aes_modes.proofs.Chaining.{length-mac_of}
use Rattle.knx_ccm.specs.declared.head.Head.{Head}
use Rattle.knx_ccm.specs.Sealing.{two_octets, is_confidential, block_0, counter_0, encrypted_length, readable_length, code_of, ciphered, wired, sealed, Opens, line_of, said_apdu, opened}

-- a code by the pieces that are fed, under the key that the MAC has
pub code_from : (key mac_key : List ℕ) (head : Head) (apdu first second whole code : List ℕ) (encrypted readable : ℕ)
    → mac_key ≡ key → encrypted ≡ encrypted_length head apdu → readable ≡ readable_length head apdu
    → first ≡ block_0 head encrypted → second ≡ two_octets readable
    → whole ≡ mac_of mac_key (((first ++ second) ++ head.field ∷ []) ++ apdu) → code ≡ take 4 whole
    → code ≡ code_of key head apdu
unfolding code_of
code_from key mac_key head apdu first second whole code encrypted readable is_key is_encrypted is_readable is_first
    is_second is_whole is_code =
    let begin : first ≡ block_0 head (encrypted_length head apdu) =
    is_first ∙ ap (λ (n : ℕ). block_0 head n) is_encrypted in
    let middle : second ≡ two_octets (readable_length head apdu) = is_second ∙ ap two_octets is_readable in
    is_code ∙ ap (take 4) (is_whole ∙ ap (mac_of mac_key) (append_assoc (first ++ second) (head.field ∷ []) apdu)
    ∙ (λ i. mac_of (is_key i) ((begin i ++ middle i) ++ head.field ∷ apdu)))

-- a list of four octets and more is its front and the rest
front_and_rest : (line : List ℕ) → take 4 line ++ drop 4 line ≡ line
front_and_rest line = take-append-drop 4 line

pub length-code_of : (key : List ℕ) (head : Head) (apdu : List ℕ) → length (code_of key head apdu) ≡ 4
unfolding code_of
length-code_of key head apdu = length-take-le 4 (mac_of key _)
    (omega (
      arith,
      length-mac_of key (block_0 head (encrypted_length head apdu)
          ++ two_octets (readable_length head apdu) ++ head.field ∷ apdu),
    ))

pub length-ciphered : (key : List ℕ) (head : Head) (octets : List ℕ) → length (ciphered key head octets) ≡ length octets
unfolding ciphered
length-ciphered key head octets = by_algorithm (is_confidential head) where
  by_algorithm : (b : Bool) → length (cond b (with_stream key (counter_0 head) octets) octets) ≡ length octets
  by_algorithm true = length-with_stream key (counter_0 head) octets
  by_algorithm false = refl

pub ciphered-twice : (key : List ℕ) (head : Head) (octets : List ℕ)
    → ciphered key head (ciphered key head octets) ≡ octets
unfolding ciphered
ciphered-twice key head octets = by_algorithm (is_confidential head) where
  by_algorithm : (b : Bool) → cond b (with_stream key (counter_0 head)
      (cond b (with_stream key (counter_0 head) octets) octets))
      (cond b (with_stream key (counter_0 head) octets) octets) ≡ octets
  by_algorithm true = with_stream-twice key (counter_0 head) octets
  by_algorithm false = refl

-- the code and the APDU, under the stream, of what is on the wire
abbrev unwired : List ℕ → List ℕ
unwired body = drop (length body - 4) body ++ take (length body - 4) body

-- a list whose first four octets go to its end comes back
unwired-turned : (line : List ℕ) → 4 ≤ length line → unwired (drop 4 line ++ take 4 line) ≡ line
unwired-turned line long =
    let front : length (take 4 line) ≡ 4 = length-take-le 4 line long in
    let back : length (drop 4 line ++ take 4 line) - 4 ≡ length (drop 4 line) =
    omega (arith, length-append (drop 4 line) (take 4 line), front) in
    (λ i. drop (back i) (drop 4 line ++ take 4 line) ++ take (back i) (drop 4 line ++ take 4 line))
    ∙ (λ i. drop-append_seam (drop 4 line) (take 4 line) i ++ take-append_seam (drop 4 line) (take 4 line) i)
    ∙ front_and_rest line

turned-unwired : (body : List ℕ) → 4 ≤ length body → drop 4 (unwired body) ++ take 4 (unwired body) ≡ body
turned-unwired body long =
    let n = length body - 4 in
    let code : length (drop n body) ≡ 4 = omega (arith, length-drop n body) in
    let P : ℕ → Type 0 = λ k. drop k (drop n body ++ take n body) ++ take k (drop n body ++ take n body) ≡ body in
    subst P code (
    (λ i. drop-append_seam (drop n body) (take n body) i ++ take-append_seam (drop n body) (take n body) i)
    ∙ take-append-drop n body
    )

-- what was put on the wire is found there
pub wired-found : (key : List ℕ) (head : Head) (code apdu body : List ℕ) → length code ≡ 4
    → wired key head code apdu ≡ body
    → ciphered key head (unwired body) ≡ code ++ apdu
unfolding wired
wired-found key head code apdu body four is =
    let line = ciphered key head (code ++ apdu) in
    let long : 4 ≤ length line = omega (arith, length-ciphered key head (code ++ apdu), length-append code apdu) in
    ap (λ (b : List ℕ). ciphered key head (unwired b)) (sym is)
    ∙ ap (ciphered key head) (unwired-turned line long)
    ∙ ciphered-twice key head (code ++ apdu)

-- and what is found there was put there
pub wired-back : (key : List ℕ) (head : Head) (body line : List ℕ) → 4 ≤ length body → line ≡ line_of key head body
    → wired key head (take 4 line) (drop 4 line) ≡ body
unfolding wired line_of
wired-back key head body line long is =
    let same : ciphered key head (take 4 line ++ drop 4 line) ≡ unwired body =
    ap (ciphered key head) (front_and_rest line ∙ is) ∙ ciphered-twice key head (unwired body) in
    (λ i. drop 4 (same i) ++ take 4 (same i)) ∙ turned-unwired body long

-- an APDU that seals to the body is found there, with its code
pub opens-found : (key : List ℕ) (head : Head) (body line apdu : List ℕ) → line ≡ line_of key head body
    → Opens key head body apdu → (take 4 line ≡ code_of key head apdu) × (drop 4 line ≡ apdu)
unfolding sealed line_of
opens-found key head body line apdu is opens =
    let code = code_of key head apdu in
    let four : length code ≡ 4 = length-code_of key head apdu in
    let whole : line ≡ code ++ apdu = is ∙ wired-found key head code apdu body four opens in
    (ap (take 4) whole ∙ take_at code apdu 4 four, ap (drop 4) whole ∙ drop_at code apdu 4 four)

-- where the code is that of the APDU beside it, that APDU seals to the body
pub opens-back : (key : List ℕ) (head : Head) (body line : List ℕ) → 4 ≤ length body → line ≡ line_of key head body
    → take 4 line ≡ code_of key head (drop 4 line) → Opens key head body (drop 4 line)
unfolding sealed
opens-back key head body line long is same =
    ap (λ (code : List ℕ). wired key head code (drop 4 line)) (sym same) ∙ wired-back key head body line long is

-- the line of code and APDU is as long as the body
pub length-line : (key : List ℕ) (head : Head) (body line : List ℕ) → line ≡ line_of key head body
    → length line ≡ length body
unfolding line_of
length-line key head body line is =
    ap length is ∙ length-ciphered key head (unwired body)
    ∙ omega (
      arith,
      length-append (drop (length body - 4) body) (take (length body - 4) body),
      length-drop (length body - 4) body,
      length-take (length body - 4) body,
    )

-- what is copied out is the APDU
pub copied : (body line copy rest : List ℕ) → length line ≡ length body → copy ≡ take (length line - 4) (drop 4 line)
    → take (length body - 4) (copy ++ rest) ≡ drop 4 line
copied body line copy rest same is =
    let whole : copy ≡ drop 4 line = is ∙ take_rest line 4 in
    take_at copy rest (length body - 4) (omega (arith, ap length whole, length-drop 4 line, same)) ∙ whole

-- the octets that are written are what stands on the wire
pub sealed_by : (key : List ℕ) (head : Head) (apdu code joined line out rest : List ℕ) → code ≡ code_of key head apdu
    → joined ≡ code ++ apdu → line ≡ ciphered key head joined → out ≡ drop 4 line ++ take 4 line
    → take (length apdu + 4) (out ++ rest) ≡ sealed key head apdu
unfolding sealed wired
sealed_by key head apdu code joined line out rest is_code is_joined is_line is_out =
    let whole : line ≡ ciphered key head (code_of key head apdu ++ apdu) =
    is_line ∙ ap (ciphered key head) (is_joined ∙ ap (λ (front : List ℕ). front ++ apdu) is_code) in
    let long : length line ≡ 4 + length apdu =
    ap length whole ∙ length-ciphered key head (code_of key head apdu ++ apdu)
    ∙ omega (arith, length-append (code_of key head apdu) apdu, length-code_of key head apdu) in
    let same : length out ≡ length apdu + 4 = ap length is_out
    ∙ omega (arith, length-append (drop 4 line) (take 4 line), length-drop 4 line, length-take 4 line, long) in
    take_at out rest (length apdu + 4) same ∙ is_out ∙ (λ i. drop 4 (whole i) ++ take 4 (whole i))

-- the APDU on the wire opens where it seals to the body
pub opened-some : (key : List ℕ) (head : Head) (body apdu : List ℕ) → apdu ≡ said_apdu key head body
    → Opens key head body apdu
    → opened key head body ≡ Some apdu
opened-some key head body apdu is opens =
    let seals : sealed key head (said_apdu key head body) ≡ body = ap (sealed key head) (sym is) ∙ opens in
    ap (λ (b : Bool). cond b (Some (said_apdu key head body)) None)
    ((bytes_eq-Decides (sealed key head (said_apdu key head body)) body).1 seals)
    ∙ ap Some (sym is)

-- nothing opens where no APDU seals to the body
pub opened-none : (key : List ℕ) (head : Head) (body : List ℕ) → ((apdu : List ℕ) → Opens key head body apdu → ⊥)
    → opened key head body ≡ None
opened-none key head body never =
    by_test (pointwise nat_eq (sealed key head (said_apdu key head body)) body)
    (bytes_eq-Decides (sealed key head (said_apdu key head body)) body).0
  where
    by_test : (b : Bool) → (b ≡ true → sealed key head (said_apdu key head body) ≡ body)
        → cond b (Some (said_apdu key head body)) None ≡ None
    by_test true says = absurd (never (said_apdu key head body) (says refl))
    by_test false says = refl

-- what opens is what seals to the body, and nothing else
pub opened-law : (key : List ℕ) (head : Head) (body apdu : List ℕ)
    → (opened key head body ≡ Some apdu) ↔ Opens key head body apdu
opened-law key head body apdu = (
  by_test (pointwise nat_eq (sealed key head found) body) (bytes_eq-Decides (sealed key head found) body).0,
  λ opens. opened-some key head body apdu (sym (opens-found key head body (line_of key head body) apdu refl opens).1)
      opens,
)
  where
    found : List ℕ
    found = said_apdu key head body

    by_test : (b : Bool) → (b ≡ true → sealed key head found ≡ body) → cond b (Some found) None ≡ Some apdu
        → Opens key head body apdu
    by_test true says is = let same : found ≡ apdu = cc in
        subst (Opens key head body) same (says refl)
    by_test false says is = absurd cc
