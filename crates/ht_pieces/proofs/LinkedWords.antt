-- What goes along with each link of a chain goes along the chain, and so along an atom.
use Rattle.std.proofs.Common.{ℕ, zero, suc, inl, inr, List, subst, Contains}
use Rattle.ht_word.specs.declared.shape.Shape.{Shape}
use Rattle.ht_word.specs.declared.word.Word.{Word}
use Rattle.ht_pair.specs.Atoms.{AreJoined, AreLinked, IsAtom, IsInfiniteWord, words_at}
use Rattle.ht_pair.specs.declared.row.Row.{Row}
use Rattle.ht_types.proofs.AtomLaws.{atom_linked}
use Rattle.ht_types.proofs.PlacedWords.{placed_word}

-- a property that goes along with each link, either way
pub record GoesAlong (shape : Shape) (p : List Row) (X : List Word) (P : Word → Type 0) : Type 0 where
  pub ahead : (t y : Word) → P t → IsInfiniteWord shape p X y → AreJoined shape p t y → P y
  pub behind : (t y : Word) → P t → IsInfiniteWord shape p X y → AreJoined shape p y t → P y

pub along_chain : {shape : Shape} {p : List Row} {X : List Word} {P : Word → Type 0} → GoesAlong shape p X P → (k : ℕ) (x y : Word) → P x → AreLinked shape p X k x y → P y
along_chain {P = P} goes zero x y a chain = subst P chain a
along_chain goes (suc k) x y a chain = elim chain.3 [
  | inl link ↦ goes.ahead chain.0 y (along_chain goes k x chain.0 a chain.1) chain.2 link
  | inr link ↦ goes.behind chain.0 y (along_chain goes k x chain.0 a chain.1) chain.2 link
]

-- a property that goes along with links, and that one word of an atom has, each of its words has
pub along_atom : {shape : Shape} {p : List Row} {X : List Word} {places : List ℕ} {P : Word → Type 0} → GoesAlong shape p X P → IsAtom shape p X places → (x y : Word)
    → Contains (words_at X places) x → Contains (words_at X places) y → P x → P y
along_atom {shape} {p} {X} {places} goes atom x y c e a =
    let i = placed_word X places x c in
    let j = placed_word X places y e in
    let chain = atom_linked shape p X places i.0 j.0 x y atom i.1 j.1 i.2 j.2 in
    along_chain goes chain.0 x y a chain.1
