use Rattle.std.proofs.Common.{map, sym, subst, arith}
use Rattle.std.specs.Prelude.{IsSome}
use Rattle.knx_base.specs.Files.{octets_named}
use Rattle.knx_base.specs.Shelf.{ShelfState, file_of}
use Rattle.knx_base.proofs.ShelfLemmas.{first_found, never_missing, length-first, still_first, told_set, opened, opened_alone, listed}
use Rattle.knx_base.proofs.shelf.Shelf.open.Goals as goal

pub index_mut-file-requires : goal.index_mut-file-requires
index_mut-file-requires c =
    let first =
    first_found c.self.inside.files.items _ _ _ _ c.deref.ensures.value c.position_named.ensures c.in-Some.is in
    omega (arith, length-first _ _ _ first, c.self.inside.files.ok)

pub invariant_of-self : goal.invariant_of-self
invariant_of-self c =
    let first =
    first_found c.self.inside.files.items _ _ _ _ c.deref.ensures.value c.position_named.ensures c.in-Some.is in
    λ x same. still_first _ _ x _ _ _ _ 0 first c.index_mut-file.ensures.value c.restart.ensures.start same

pub returns-in-Some-clause-told : goal.returns-in-Some-clause-told
returns-in-Some-clause-told c =
    rw (← c.self.view_is) (told_set _ _ _ _ _ 0 c.index_mut-file.ensures.value c.restart.ensures.start)

pub returns-in-Some-clause-start : goal.returns-in-Some-clause-start
returns-in-Some-clause-start c =
    let first =
    first_found c.self.inside.files.items _ _ _ _ c.deref.ensures.value c.position_named.ensures c.in-Some.is in
    rw (← c.self.view_is) (opened _ _ _ _ _ _ _ _ _ first c.index_mut-file.ensures.value c.restart.ensures.start)

pub returns-in_default-clause-start : goal.returns-in_default-clause-start
returns-in_default-clause-start c =
    let IsThere : ShelfState → Type 0 = λ shelf. IsSome (octets_named (map file_of shelf.files) c.args.name.now) in
    let there = subst IsThere (sym c.self.view_is) c.requires.there in
    absurd (never_missing c.self.inside.files.items _ _ _ c.deref.ensures.value c.position_named.ensures c.in_default.is
    there)

pub returns-in-Some-clause-others : goal.returns-in-Some-clause-others
returns-in-Some-clause-others c =
    let first =
    first_found c.self.inside.files.items _ _ _ _ c.deref.ensures.value c.position_named.ensures c.in-Some.is in
    rw (← c.self.view_is) (opened_alone _ _ _ _ _ _ 0 first c.index_mut-file.ensures.value c.restart.ensures.start)

pub returns-in-Some-clause-opened : goal.returns-in-Some-clause-opened
returns-in-Some-clause-opened c =
    let first =
    first_found c.self.inside.files.items _ _ _ _ c.deref.ensures.value c.position_named.ensures c.in-Some.is in
    rw (← c.self.view_is) (listed _ _ _ _ _ _ 0 _ _ _ first c.index_mut-file.ensures.value c.restart.ensures.start
    c.name.ensures.name c.note.ensures.noted)

pub returns-in_default-clause-opened : goal.returns-in_default-clause-opened
returns-in_default-clause-opened c =
    let IsThere : ShelfState → Type 0 = λ shelf. IsSome (octets_named (map file_of shelf.files) c.args.name.now) in
    let there = subst IsThere (sym c.self.view_is) c.requires.there in
    absurd (never_missing c.self.inside.files.items _ _ _ c.deref.ensures.value c.position_named.ensures c.in_default.is
    there)
