-- Powers, what follows value lists, parts and normal conjugators are of elements.
use Rattle.std.proofs.Common.{◌≡◌, ℕ, ◌+◌, ◌++◌, List, sym, ◌∙◌, arith, ℤ, pos}
use Rattle.ht_word.specs.Words.{◌·◌}
use Rattle.ht_word.specs.declared.shape.Shape.{Shape}
use Rattle.ht_word.specs.declared.word.Word.{Word}
use Rattle.ht_word.proofs.WordLaws.{after_cancel_right, letters_append, ones, ones_letters, under_after}
use Rattle.ht_pair.specs.Actions.{Moves}
use Rattle.ht_pair.specs.Images.{Entry}
use Rattle.ht_pair.specs.NormalConjugators.{IsLeastAttractor, CarriesToAttractor, CarriesFewWords, CarriesCycles, IsNormal}
use Rattle.ht_pair.specs.Parts.{MovesOnly, HasParts}
use Rattle.ht_pair.specs.Products.{IsPower}
use Rattle.ht_pair.specs.Steps.{Steps}
use Rattle.ht_pair.specs.ValueLists.{IsValueList, IsFollowed}
use Rattle.ht_pair.specs.declared.row.Row.{Row}
use Rattle.ht_pair.proofs.AlikeLaws.{alike_sym}
use Rattle.ht_pair.proofs.AlikePowerLaws.{steps_alike, quasinormal_alike}
use Rattle.ht_pair.proofs.BasisLaws.{some_trans}
use Rattle.ht_pair.proofs.MovesLaws.{moves_extends, moves_map}
use Rattle.ht_pair.proofs.PowerLaws.{power_of_alike}
use Rattle.ht_pair.proofs.PrefixMapLaws.{long_word, moved_long}
use Rattle.ht_pair.proofs.StepsLaws.{steps_map}
use Rattle.ht_pair.proofs.ValueListLaws.{sends_extends, sends_word}
use Rattle.ht_ops.proofs.AlikeProducts.{power_alike}
use Rattle.ht_laws.proofs.CarriedLaws.{AreAlike, other_way, carries_there, attractor_alike, attractor_word_alike, under_alike, periodic_alike, infinite_alike, atom_alike}
use Rattle.ht_laws.proofs.ConjugatorLaws.{conjugates_of_alike}

-- alike pairs are the same powers of alike pairs
pub powers_alike : (shape : Shape) (p q s t : List Row) → AreAlike shape p q → AreAlike shape s t → (k : ℤ) → IsPower shape p k s → IsPower shape q k t
powers_alike shape p q s t pairs powers k h = power_alike shape q s t k pairs.second (power_of_alike shape p q s k pairs.first pairs.second pairs.alike h) powers.second (alike_sym shape s t powers.alike)

-- what follows a value list by a power of p follows by that of each pair alike p
pub followed_alike : (shape : Shape) (p q : List Row) → AreAlike shape p q → (k : ℤ) (L M : List Entry) → IsValueList shape L → IsFollowed shape L p k M → IsFollowed shape L q k M
followed_alike shape p q pairs k L M value h = record {
  value_list = h.value_list;
  followed = λ t w w' w'' letters sent st there.
      let m = (steps_map shape p pairs.first k).ahead in
      let z = ones m.bound in
      let word = sends_word shape L value t w letters sent in
      let x = moved_long shape (Steps p k) m w m.bound word (omega arith) in
      let first : x.0 ≡ w' · z = steps_alike shape p q pairs.first pairs.second pairs.alike k (w · z) x.0 (w' · z) (long_word shape w m.bound word) x.1 ((steps_map shape q pairs.second k).ahead.extends w w' z st) in
      let second : x.0 ≡ w'' · z = h.followed (t ++ z) (w · z) x.0 (w'' · z) (letters_append shape t z letters (ones_letters shape m.bound)) (sends_extends L t w z sent) x.1 (sends_extends M t w'' z there) in
      after_cancel_right w' w'' z (sym first ∙ second);
}

-- a pair alike to one that moves the words under V as p does and fixes those under W does so with each pair alike p
moves_only_alike : (shape : Shape) (p q s t : List Row) → AreAlike shape p q → AreAlike shape s t → (V W : List Word) → MovesOnly shape p V W s → MovesOnly shape q V W t
moves_only_alike shape p q s t pairs parts V W h = record {
  pair = parts.second;
  on = λ u v v' word at f g.
      let mp = (moves_map shape p pairs.first).ahead in
      let ms = (moves_map shape s h.pair).ahead in
      let k = mp.bound + ms.bound in
      let z = ones k in
      let long = long_word shape u k word in
      let x = moved_long shape (Moves p) mp u k word (omega arith) in
      let y = moved_long shape (Moves s) ms u k word (omega arith) in
      let first : x.0 ≡ v · z = pairs.alike (u · z) x.0 (v · z) long x.1 (moves_extends q u v z f) in
      let second : y.0 ≡ v' · z = parts.alike (u · z) y.0 (v' · z) long y.1 (moves_extends t u v' z g) in
      after_cancel_right v v' z (sym first ∙ h.on (u · z) x.0 y.0 long (some_trans (under_after u z) at) x.1 y.1 ∙ second);
  off = λ u v word at g.
      let ms = (moves_map shape s h.pair).ahead in
      let z = ones ms.bound in
      let long = long_word shape u ms.bound word in
      let y = moved_long shape (Moves s) ms u ms.bound word (omega arith) in
      let same_word : y.0 ≡ v · z = parts.alike (u · z) y.0 (v · z) long y.1 (moves_extends t u v z g) in
      after_cancel_right u v z (h.off (u · z) y.0 long (some_trans (under_after u z) at) y.1 ∙ same_word);
}

-- pairs alike to the parts of a pair are the parts of each pair alike to it
pub parts_alike : (shape : Shape) (p q s t first second : List Row) → AreAlike shape p q → AreAlike shape s first → AreAlike shape t second → (X : List Word) → HasParts shape p X s t → HasParts shape q X first second
parts_alike shape p q s t first second pairs periodic infinite X h = record {
  periodic = h.periodic;
  infinite = h.infinite;
  is_periodic = periodic_alike shape p q pairs X h.periodic h.is_periodic;
  is_infinite = infinite_alike shape p q pairs X h.infinite h.is_infinite;
  on_periodic = moves_only_alike shape p q s first pairs periodic h.periodic h.infinite h.on_periodic;
  on_infinite = moves_only_alike shape p q t second pairs infinite h.infinite h.periodic h.on_infinite;
}

-- ---- normal conjugators

-- the least attractor of an atom is the same
least_attractor_alike : (shape : Shape) (p q : List Row) → AreAlike shape p q → (X : List Word) (places : List ℕ) (c : Word) → IsLeastAttractor shape p X places c → IsLeastAttractor shape q X places c
least_attractor_alike shape p q pairs X places c h = record {
  listed = h.listed;
  attractor = attractor_word_alike shape p q pairs c h.attractor;
  least = λ x l a. h.least x l (attractor_word_alike shape q p (other_way shape p q pairs) x a);
}

-- a pair alike to one that carries a word to an attractor does so
to_attractor_alike : (shape : Shape) (h g b d : List Row) → AreAlike shape h g → AreAlike shape b d → (Y : List Word) (c : Word) → CarriesToAttractor shape h b Y c → CarriesToAttractor shape g d Y c
to_attractor_alike shape h g b d by pairs Y c t = record {
  to = t.to;
  listed = t.listed;
  steps = t.steps;
  front = t.front;
  back = t.back;
  attractor = attractor_alike shape b d pairs t.to t.steps (t.front ++ t.back) t.attractor;
  proper = t.proper;
  carries = carries_there shape h g by (pos 1) c (t.to · t.front) t.carries;
}

-- and so with few words under a list
few_words_alike : (shape : Shape) (h g : List Row) → AreAlike shape h g → (P Q : List Word) → CarriesFewWords shape h P Q → CarriesFewWords shape g P Q
few_words_alike shape h g by P Q t = record { words = t.words; few = t.few; covers = t.covers; carries = λ x c. under_alike shape h g by (pos 1) x Q (t.carries x c) }

-- and with the cycles
carries_cycles_alike : (shape : Shape) (h g a c b d : List Row) → AreAlike shape h g → AreAlike shape a c → AreAlike shape b d → (X Y : List Word) → CarriesCycles shape h a X b Y → CarriesCycles shape g c X d Y
carries_cycles_alike shape h g a c b d by first second X Y t = record {
  first = t.first;
  second = t.second;
  first_part = periodic_alike shape a c first X t.first t.first_part;
  second_part = periodic_alike shape b d second Y t.second t.second_part;
  few_words = few_words_alike shape h g by t.first t.second t.few_words;
}

-- pairs alike to a normal conjugator are normal conjugators of alike pairs
pub normal_alike : (shape : Shape) (h g a c b d : List Row) → AreAlike shape h g → AreAlike shape a c → AreAlike shape b d → IsNormal shape h a b → IsNormal shape g c d
normal_alike shape h g a c b d by first second n =
    let X = n.first_basis in
    let Y = n.second_basis in
    let back = other_way shape a c first in
    record {
      conjugates = conjugates_of_alike shape h g a c b d by.second first.first first.second second.first by.alike first.alike second.alike n.conjugates;
      first_basis = X;
      second_basis = Y;
      first_quasinormal = quasinormal_alike shape a c first.first first.second first.alike X n.first_quasinormal;
      second_quasinormal = quasinormal_alike shape b d second.first second.second second.alike Y n.second_quasinormal;
      on_atoms = λ places x atom least. to_attractor_alike shape h g b d by second Y x (n.on_atoms places x (atom_alike shape c a back X places atom) (least_attractor_alike shape c a back X places x least));
      on_cycles = carries_cycles_alike shape h g a c b d by first second X Y n.on_cycles;
    }
