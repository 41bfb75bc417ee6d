use Rattle.std.proofs.Common.{◌≡◌, ◌+◌, suc, List, [], ◌∷◌, length, sym, ap, subst, refl, arith, length-append}
use Rattle.std.proofs.lemmas.List.Elements.{All-nil}
use Rattle.ht_pair.specs.declared.row.Row.{Row}
use Rattle.ht_text.specs.Texts.{HasRowText}
use Rattle.ht_text.specs.FileLines.{IsLinesFault}
use Rattle.ht_text.specs.declared.fault.FileFault.TheVariants.{Form}
use Rattle.ht_text.proofs.FileStops.{HasReadLines, line_read, stop_at_row, stop_at_end, stop_behind_end, whole_file}
use Rattle.ht_text.proofs.lines.read_lines.Goals as goal

pub loop-i-init : goal.loop-i-init
loop-i-init c = record {
  read = subst (λ (t : List Row). HasReadLines c.in_ok-head.head.rest.now t c.in_ok-head.head.rest.now) (sym c.new-rows.ensures) (record { have_texts = All-nil HasRowText; is = refl });
  number = ap (λ (t : List Row). length t) c.new-rows.ensures;
}

pub loop-i-preserved : goal.loop-i-preserved
loop-i-preserved c =
    let front = rw c.in-Some.is at c.in_ok-row.ensures in
    let number : length c.loop-i.rows ≡ c.loop-i.i = c.loop-i.invariant.number in
    record {
      read =
          subst (λ (t : List Row). HasReadLines c.in_ok-head.head.rest.now t c.in-Some.behind.now) (sym c.in_ok-push.ensures.ok)
          (line_read c.in_ok-head.head.rest.now c.loop-i.rows c.loop-i.rest.now c.in-Some.row c.in-Some.behind.now c.loop-i.invariant.read front);
      number = omega (arith, ap (λ (t : List Row). length t) c.in_ok-push.ensures.ok, length-append c.loop-i.rows (c.in-Some.row ∷ []));
    }

pub returns-in_default-clause-fault : goal.returns-in_default-clause-fault
returns-in_default-clause-fault c =
    let number : length c.loop-i.rows ≡ c.loop-i.i = c.loop-i.invariant.number in
    let line : suc (length c.loop-i.rows + 3) ≡ c.loop-i.i + 4 = omega arith in
    subst (λ l. IsLinesFault c.args.bytes.now (Form l)) line
    (stop_at_row c.args.bytes.now c.in_ok-head.head.n c.in_ok-head.head.r c.in_ok-head.head.count c.in_ok-head.head.rest.now c.loop-i.rows c.loop-i.rest.now c.in_ok-head.ensures.head c.loop-i.invariant.read
    (omega arith) (rw c.in_default.is at c.in_ok-row.ensures))

pub returns-in-Whole-clause-file : goal.returns-in-Whole-clause-file
returns-in-Whole-clause-file c =
    let number : length c.loop-i.rows ≡ c.loop-i.i = c.loop-i.invariant.number in
    whole_file c.args.bytes.now c.in_ok-head.head.n c.in_ok-head.head.r c.in_ok-head.head.count c.in_ok-head.head.rest.now c.loop-i.rows c.loop-i.rest.now c.in_ok-head.ensures.head c.loop-i.invariant.read
    (omega arith) c.in-Whole.ensures

pub returns-in-Missing-clause-fault : goal.returns-in-Missing-clause-fault
returns-in-Missing-clause-fault c =
    let number : length c.loop-i.rows ≡ c.loop-i.i = c.loop-i.invariant.number in
    let line : suc (length c.loop-i.rows + 3) ≡ c.in_ok-head.head.count + 4 = omega arith in
    subst (λ l. IsLinesFault c.args.bytes.now (Form l)) line
    (stop_at_end c.args.bytes.now c.in_ok-head.head.n c.in_ok-head.head.r c.in_ok-head.head.count c.in_ok-head.head.rest.now c.loop-i.rows c.loop-i.rest.now c.in_ok-head.ensures.head c.loop-i.invariant.read
    (omega arith) c.in-Missing.ensures)

pub returns-in-Behind-clause-fault : goal.returns-in-Behind-clause-fault
returns-in-Behind-clause-fault c =
    let number : length c.loop-i.rows ≡ c.loop-i.i = c.loop-i.invariant.number in
    let line : suc (length c.loop-i.rows + 4) ≡ c.in_ok-head.head.count + 5 = omega arith in
    subst (λ l. IsLinesFault c.args.bytes.now (Form l)) line
    (stop_behind_end c.args.bytes.now c.in_ok-head.head.n c.in_ok-head.head.r c.in_ok-head.head.count c.in_ok-head.head.rest.now c.loop-i.rows c.loop-i.rest.now c.in_ok-head.ensures.head c.loop-i.invariant.read
    (omega arith) c.in-Behind.ensures)
