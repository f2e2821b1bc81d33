use Rattle.std.proofs.Common.{◌≡◌, ◌<◌, ◌∙◌, length, map, get_or, ap, refl, arith}
use Rattle.std.proofs.lemmas.List.{length-map}
use Rattle.dump_text.specs.Types.{Oid}
use Rattle.dump_text.specs.Dumps.{name_line}
use Rattle.dump_text.proofs.LineLaws.{lines_more, name_here}
use Rattle.dump_text.proofs.writing.put_names.Goals as goal

pub names-preserved : goal.names-preserved
names-preserved c =
    let names = c.args.names.now in
    let items = c.as_slice-name-items.result.now in
    let oids = c.as_slice.result.now in
    let place = c.names.place in
    let name = c.name-item.result in
    let none : Oid = record { 0 = 0 } in
    let oid = get_or oids place none in
    let keys : items ≡ map (λ entry. entry.0) names = c.as_slice-name-items.ensures ∙ c.in_ok-texts.ensures in
    let objects : oids ≡ map (λ entry. entry.1) names = c.as_slice.ensures ∙ c.in_ok-oids.ensures in
    let size : length items ≡ length names = ap length keys ∙ length-map names (λ entry. entry.0) in
    let inside = c.names-test.true in
    let low : place < length names = omega (arith, size, inside) in
    let is = name_here names items oids place name name oid none keys objects low c.name-item.is refl in
    lines_more name_line c.args.dump.now c.names.dump c.put_name_line.new.dump names place (name, oid)
    (name_line (name, oid)) low (ap name_line is) c.in_ok-put_name_line.ensures c.names.invariant
