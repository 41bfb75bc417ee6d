-- Atoms with their ends and the links inside them: t is an element with its quasinormal basis, the owner of a place is the index of an atom.
--
--     places_of atom               its places
--     IsPreparedAtom t atom        the ends are those at the places, in order, and the links are links of t
--     ArePrepared t places atoms   such atoms with these places
--     IsLinkedAtom t atom          the places are an atom, with its ends and with links of it
--     AreLinkedAtoms t atoms       all atoms, each with links of it
--     IsOwned atoms owners place   the owner of the place is the index of an atom that has it
--     AreOwners atoms owners       each place of an atom is owned
--     HaveOwners t atoms owners    the place of each word of the infinite part is owned
--     IsLinkAdded t link old new   the link is added to those of an atom that its cone is under
--     IsLinkOf t atom link         the link is one of the atom's, and its cone is under the atom
--     AreDealt t links old new     the atoms have their ends, and links of t; each of these links is one of an atom that its cone is under
use Rattle.std.specs.Prelude.{ℕ, ◌≡◌, ◌<◌, length, List, [], ◌∷◌, ◌++◌, map, All, Contains, Some, slice_get, slice_index, slice_set}
use Rattle.ht_word.specs.declared.word.Word.{Word}
use Rattle.ht_word.specs.Words.{IsUnderSome}
use Rattle.ht_pair.specs.Atoms.{IsAtom, IsInfiniteWord, words_at}
use Rattle.ht_types.specs.Links.{IsLink, ConnectEnds}
use Rattle.ht_types.specs.TypedElements.{TypedValue}
use Rattle.ht_types.specs.declared.link.Link.{Link}
use Rattle.ht_atoms.specs.AtomLists.{AreAtoms}
use Rattle.ht_conj.specs.OrderedEnds.{AreEndsAt}
use Rattle.ht_conj.specs.declared.linked.LinkedAtom.{LinkedAtom}

abbrev pub places_of : LinkedAtom → List ℕ
places_of atom = atom.places

pub record IsPreparedAtom (t : TypedValue) (atom : LinkedAtom) : Type 0 where
  pub ends : AreEndsAt t atom.places atom.ends
  pub links : All (IsLink t) atom.links

pub record ArePrepared (t : TypedValue) (places : List (List ℕ)) (atoms : List LinkedAtom) : Type 0 where
  pub same : map places_of atoms ≡ places
  pub each : All (IsPreparedAtom t) atoms

pub record IsLinkedAtom (t : TypedValue) (atom : LinkedAtom) : Type 0 where
  pub is_atom : IsAtom t.element.shape t.element.rows t.quasi.basis.words atom.places
  pub prepared : IsPreparedAtom t atom
  pub open prepared use *
  pub connected : ConnectEnds t atom.places atom.links

pub record AreLinkedAtoms (t : TypedValue) (atoms : List LinkedAtom) : Type 0 where
  pub atoms_are : AreAtoms t.element.shape t.element.rows t.quasi.basis.words (map places_of atoms)
  pub each : All (IsLinkedAtom t) atoms

pub record IsOwned (atoms : List (List ℕ)) (owners : List ℕ) (place : ℕ) : Type 0 where
  pub within : place < length owners
  pub places : List ℕ
  pub here : slice_get atoms (slice_index owners place) ≡ Some places
  pub listed : Contains places place

abbrev pub AreOwners : List (List ℕ) → List ℕ → Type 0
AreOwners atoms owners = (places : List ℕ) (place : ℕ) → Contains atoms places → Contains places place → IsOwned atoms owners place

abbrev pub HaveOwners : TypedValue → List (List ℕ) → List ℕ → Type 0
HaveOwners t atoms owners = (place : ℕ) (x : Word) → slice_get t.quasi.basis.words place ≡ Some x → IsInfiniteWord t.element.shape t.element.rows t.quasi.basis.words x → IsOwned atoms owners place

pub record IsLinkAdded (t : TypedValue) (link : Link) (old new : List LinkedAtom) : Type 0 where
  pub index : ℕ
  pub atom : LinkedAtom
  pub here : slice_get old index ≡ Some atom
  pub under : IsUnderSome link.cone (words_at t.quasi.basis.words atom.places)
  pub added : new ≡ slice_set old index (record atom { links = atom.links ++ link ∷ [] })

-- the link is one of the atom's, and its cone is under the atom
pub record IsLinkOf (t : TypedValue) (atom : LinkedAtom) (link : Link) : Type 0 where
  pub listed : Contains atom.links link
  pub under : IsUnderSome link.cone (words_at t.quasi.basis.words atom.places)

pub record AreDealt (t : TypedValue) (links : List Link) (old new : List LinkedAtom) : Type 0 where
  pub same : map places_of new ≡ map places_of old
  pub each : All (IsPreparedAtom t) new
  pub all : All (λ link. (atom : LinkedAtom) × Contains new atom × IsLinkOf t atom link) links
