use Rattle.std.proofs.{Common.{◌≡◌, ◌<◌, ◌≤◌, ◌+◌, ◌*◌, ◌-◌, ◌∙◌, ap, sym, [], get_or, length, take, drop, arith}, lemmas.Bool.cases_lt}
use Rattle.std.proofs.lemmas.List.{length-map, take-take, get_or_past, get_or-map, drop-take, length-take}
use Rattle.redo_log.specs.Copies.{bytes_in, record_in}
use Rattle.redo_log.proofs.copies.Copies.block.Goals as goal

pub returns : goal.returns
returns c =
    let i = c.self.inside in
    let p = 512 * c.args.place in
    let memory = c.index.result.now in
    let bytes = memory.bytes.items in
    let n = memory.length in
    let enough = rw (← c.self.view_is) at c.requires.1 in
    let inside : c.args.age < length i.kept.items =
    grind (
      arith,
      cases_lt c.args.age (length i.kept.items),
      get_or_past (bytes_in i.kept.items) c.args.age [],
      length-map i.kept.items record_in,
      enough,
    ) in
    let there : get_or (bytes_in i.kept.items) c.args.age [] ≡ record_in memory =
    get_or-map record_in i.kept.items c.args.age memory [] inside ∙ ap record_in (sym c.index.ensures) in
    let room : p + 512 ≤ length (take n bytes) = rw there at enough in
    let long : p + 512 - p ≡ 512 = omega arith in
    let front : p + (n - p) ≡ n = omega (arith, room, length-take n bytes) in
    let chunk : c.in-Some.block.now ≡ take 512 (take (length bytes - p) (drop p bytes)) =
    rw c.deref.ensures.value at c.in-Some.ensures.cases.same in
    let whole : take 512 (take (length bytes - p) (drop p bytes)) ≡ take 512 (drop p bytes) =
    take-take 512 (length bytes - p) (drop p bytes) (omega (arith, room, length-take n bytes)) in
    let part : take 512 (drop p (take n bytes)) ≡ take 512 (drop p bytes) =
    rw front at (ap (take 512) (drop-take p (n - p) bytes))
    ∙ take-take 512 (n - p) (drop p bytes) (omega (arith, room, length-take n bytes)) in
    rw (← c.self.view_is, there, long) (chunk ∙ whole ∙ sym part)
