-- What a pair moves it carries; and a power that is the identity carries each word to itself.
use Rattle.std.proofs.Common.{ℕ, List, refl, ◌∙◌, ℤ, pos, ◌↔◌}
use Rattle.std.proofs.lemmas.List.Elements.{All-nil}
use Rattle.ht_word.specs.Words.{IsLetter, IsWordOf, root_word}
use Rattle.ht_word.specs.declared.shape.Shape.{Shape}
use Rattle.ht_word.specs.declared.word.Word.{Word}
use Rattle.ht_pair.specs.Actions.{Moves, Alike}
use Rattle.ht_pair.specs.Orders.{FixesRoots}
use Rattle.ht_pair.specs.Pairs.{IsPair, identity}
use Rattle.ht_pair.specs.Products.{IsPower}
use Rattle.ht_pair.specs.Steps.{Carries}
use Rattle.ht_pair.specs.declared.row.Row.{Row}
use Rattle.ht_pair.proofs.AlikeLaws.{alike_sym}
use Rattle.ht_pair.proofs.AlikePowerLaws.{carries_alike}
use Rattle.ht_pair.proofs.CarriesLaws.{carries_from_steps, carries_itself}
use Rattle.ht_pair.proofs.IdentityLaws.{identity_pair, identity_moves}
use Rattle.ht_pair.proofs.PowerLaws.{identity_power}
use Rattle.ht_laws.proofs.GroupLaws.{carries_by_power}

-- a pair carries what it moves
pub moves_carries : (shape : Shape) (p : List Row) (u v : Word) → IsPair shape p → IsWordOf shape u → Moves p u v → Carries shape p (pos 1) u v
moves_carries shape p u v pair word moved = carries_from_steps shape p pair (pos 1) u v word (u, refl, moved)

-- a power that is the identity carries each word to itself
pub identity_carries : (shape : Shape) (p s : List Row) (k : ℤ) → IsPair shape p → IsPower shape p k s → Alike shape s (identity shape) → (u : Word) → IsWordOf shape u → Carries shape p k u u
identity_carries shape p s k pair power alike u word =
    let stays : Carries shape (identity shape) (pos 1) u u = (carries_by_power shape p (identity shape) (pos 0) u u pair (identity_power shape p)).0 (carries_itself shape p u word) in
    (carries_by_power shape p s k u u pair power).1 (carries_alike shape (identity shape) s (identity_pair shape) power.pair (alike_sym shape s (identity shape) alike) (pos 1) u u stays)

-- a power that fixes the roots is alike to the identity, and the other way round
pub fixing_is_identity : (shape : Shape) (p s : List Row) (k : ℕ) → IsPair shape p → IsPower shape p (pos k) s → FixesRoots shape p k ↔ Alike shape s (identity shape)
fixing_is_identity shape p s k pair power = (
  (λ fixed w v v' word f g.
      let root = root_word w.root in
      let c = (carries_by_power shape p s (pos k) root root pair power).0 (fixed w.root word.root_low word.root_high) in
      c.carried w.letters v word.letters (w, refl, f) ∙ identity_moves shape w v' g),
  (λ alike root low high. identity_carries shape p s (pos k) pair power alike (root_word root) (record { root_low = low; root_high = high; letters = All-nil (IsLetter shape) })),
)
