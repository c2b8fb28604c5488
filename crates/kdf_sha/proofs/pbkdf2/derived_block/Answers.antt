use Rattle.std.proofs.Common.{◌≡◌, ◌++◌, ◌-◌, ℕ, List, arith, ap, ◌∙◌}
use Rattle.std.proofs.lemmas.List.{append-nil}
use Rattle.kdf_sha.specs.Hmac.{hmac_of}
use Rattle.kdf_sha.specs.Pbkdf2.{block_of}
use Rattle.kdf_sha.proofs.Pbkdf2Lemmas.{first_round, one_round}
use Rattle.kdf_sha.proofs.pbkdf2.derived_block.Goals as goal

pub rounds-init : goal.rounds-init
rounds-init c = λ password is.
    first_round password _ _ c.args.rounds c.requires.rounds
    (c.code-code.ensures.code password is ∙ ap (λ (number : List ℕ). hmac_of password (c.args.salt.now ++ number))
    c.to_be_bytes.ensures)

pub rounds-preserved : goal.rounds-preserved
rounds-preserved c = λ password is.
    let next : c.code-code-in-rounds.result ≡ hmac_of password c.rounds.code =
    c.code-code-in-rounds.ensures.code password is ∙ ap (hmac_of password) (append-nil _) in
    rw c.xored-sum.ensures.xored
    (one_round password c.rounds.code c.rounds.sum c.args.rounds c.rounds._round _ c.rounds-test.true next
    ∙ c.rounds.invariant password is)

pub returns : goal.returns
unfolding block_of
returns c = record {
  block = λ password is.
      let none : c.args.rounds - c.rounds._round ≡ 0 = omega arith in
      rw none at c.rounds.invariant password is;
}
