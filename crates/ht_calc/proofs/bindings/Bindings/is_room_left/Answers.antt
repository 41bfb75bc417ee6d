use Rattle.std.proofs.Common.{◌≡◌, ℕ, List, [], length, sym, arith}
use Rattle.std.proofs.lemmas.List.{length-map}
use Rattle.std.proofs.lemmas.Bool.Decides.{Decides-ltb}
use Rattle.ht_pair.specs.declared.row.Row.{Row}
use Rattle.ht_pair.specs.Elements.{ElementValue}
use Rattle.ht_calc.specs.Names.{rows_by_name}
use Rattle.ht_calc.proofs.NameLaws.{found_rows, none_found, as_many_names, one_more_name}
use Rattle.ht_calc.proofs.bindings.Bindings.is_room_left.Goals as goal

pub returns-then-is_some : goal.returns-then-is_some
returns-then-is_some c =
    let names = c.args.self.now in
    let some = (found_rows names c.args.name.now c.get.result c.get.ensures).0 (sym c.if-is_some.ensures) in
    let many = as_many_names (rows_by_name names) c.args.name.now [] some in
    let all : length (rows_by_name names) ≡ length names = length-map names (λ (entry : List ℕ × ElementValue). let e : List ℕ × List Row = (entry.0, entry.1.rows) in e) in
    ((λ yes. let l = (Decides-ltb c.len.result 256).0 yes in omega (arith, l, many, all, c.len.ensures)), (λ less. (Decides-ltb c.len.result 256).1 (omega (arith, less, many, all, c.len.ensures))))

pub returns-else-is_some : goal.returns-else-is_some
returns-else-is_some c =
    let names = c.args.self.now in
    let none = none_found names c.args.name.now c.get.result c.get.ensures (sym c.if-is_some.ensures) in
    let many = one_more_name (rows_by_name names) c.args.name.now [] none in
    let all : length (rows_by_name names) ≡ length names = length-map names (λ (entry : List ℕ × ElementValue). let e : List ℕ × List Row = (entry.0, entry.1.rows) in e) in
    ((λ yes. let l = (Decides-ltb c.len-else-is_some.result 255).0 yes in omega (arith, l, many, all, c.len-else-is_some.ensures)), (λ less. (Decides-ltb c.len-else-is_some.result 255).1 (omega (arith, less, many, all, c.len-else-is_some.ensures))))
