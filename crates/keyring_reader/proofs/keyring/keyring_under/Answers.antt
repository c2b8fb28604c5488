use Rattle.std.proofs.Common.{rules}
use Rattle.keyring_reader.specs.Keyring.{Stamps, keyring_under, IsFault}
use Rattle.keyring_reader.specs.Shown.{shown_stamps}
use Rattle.keyring_reader.proofs.KeyringLemmas.{no_stamps, no_wrapping, no_contents, all_rows}
use Rattle.keyring_reader.proofs.OnceLemmas.{rows_once}
use Rattle.keyring_reader.proofs.keyring.keyring_under.Goals as goal

pub returns-in_err-stamps-clause-fault : goal.returns-in_err-stamps-clause-fault
returns-in_err-stamps-clause-fault c =
    let refused : IsFault c.in_err-stamps.field-0.0 (keyring_under c.args.key c.args.tags.now) =
    no_stamps c.args.key c.args.tags.now c.in_err-stamps.field-0.0 c.in_err-stamps.ensures in
    search (rules, refused)

pub returns-in_err-under-clause-fault : goal.returns-in_err-under-clause-fault
returns-in_err-under-clause-fault c =
    let stamps : Stamps = shown_stamps c.in_ok-stamps.stamps in
    let refused : IsFault c.in_err-under.field-0.0 (keyring_under c.args.key c.args.tags.now) =
    no_wrapping c.args.key c.args.tags.now stamps c.in_err-under.field-0.0 c.in_ok-stamps.ensures
    c.in_err-under.ensures.fault in
    search (rules, refused)

pub returns-in_err-gathered-clause-fault : goal.returns-in_err-gathered-clause-fault
returns-in_err-gathered-clause-fault c =
    let stamps : Stamps = shown_stamps c.in_ok-stamps.stamps in
    let refused : IsFault c.in_err-gathered.field-0.0 (keyring_under c.args.key c.args.tags.now) =
    no_contents c.args.key c.args.tags.now stamps c.in_ok-under.under c.in_err-gathered.field-0.0
    c.in_ok-stamps.ensures c.in_ok-under.ensures.wrapping
    c.in_err-gathered.ensures.fault in
    search (rules, refused)

pub returns-clause-rows : goal.returns-clause-rows
returns-clause-rows c =
    let stamps : Stamps = shown_stamps c.in_ok-stamps.stamps in
    let contents = c.in_ok-gathered.ensures.contents in
    all_rows c.args.key c.args.tags.now stamps c.in_ok-under.under contents.0 c.in_ok-rows.rows.items
    c.in_ok-stamps.ensures c.in_ok-under.ensures.wrapping
    contents.1 (c.in_ok-rows.ensures contents.0 contents.2)

pub returns-clause-once : goal.returns-clause-once
returns-clause-once c =
    let contents = c.in_ok-gathered.ensures.contents in
    rows_once c.in_ok-under.under c.args.tags.now contents.0 c.in_ok-rows.rows.items contents.1
    (c.in_ok-rows.ensures contents.0 contents.2)
