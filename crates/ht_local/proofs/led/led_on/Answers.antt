use Rattle.std.proofs.Common.{◌≡◌, ℕ, ◌+◌, ◌-◌, ◌<◌, ◌∷◌, [], length, refl, ap, arith}
use Rattle.std.proofs.lemmas.List.{length-append}
use Rattle.ht_pair.specs.Bases.{longest}
use Rattle.ht_pair.specs.Pairs.{from_words}
use Rattle.ht_types.proofs.SeenLaws.{rows_in}
use Rattle.ht_local.proofs.LedLaws.{split_begins, split_asked, split_here, split_more, split_short}
use Rattle.ht_local.proofs.led.led_on.Goals as goal

pub splitting-init : goal.splitting-init
splitting-init c = split_begins c.args.t.now c.args.way c.requires.place c.requires.word

pub next_of-requires-clause-word : goal.next_of-requires-clause-word
next_of-requires-clause-word c = split_asked c.args.t.now c.args.way c.splitting.letters c.splitting.walk c.splitting.invariant

pub splitting-preserved : goal.splitting-preserved
splitting-preserved c = split_more c.args.t.now c.args.way c.splitting.letters c.splitting.walk c.splitting.invariant c.push.new.self (record { steps = c.splitting.walk.steps; to = c.splitting.walk.to; rest = c.push-in-splitting.new.self }) c.in_ok-push.ensures.ok refl refl c.in_ok-push-2.ensures.ok

pub splitting-smaller : goal.splitting-smaller
splitting-smaller c =
    let t = c.args.t.now in
    let s = c.splitting.invariant in
    let short = split_short t c.args.way c.splitting.letters c.splitting.walk s c.args.direction c.keeps_kinds.ensures (rw c.in_default.is at (c.in_ok-to.ensures s.before (split_here t c.args.way c.splitting.letters c.splitting.walk s))) in
    fewer (longest (from_words (rows_in c.args.direction t.element.rows)) + longest t.quasi.basis.words) (length c.splitting.walk.rest) (length c.push-in-splitting.new.self) short
    (omega (arith, ap (λ z. length z) c.in_ok-push-2.ensures.ok, length-append c.splitting.walk.rest (1 ∷ [])))
  where
    fewer : (n k l : ℕ) → k < n → l ≡ k + 1 → n - l < n - k
    fewer n k l less e = omega arith
