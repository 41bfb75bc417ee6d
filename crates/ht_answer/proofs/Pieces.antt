-- Texts that are written piece by piece, one for each item of a list.
use Rattle.std.proofs.Common.{◌≡◌, ◌<◌, ◌+◌, ◌∙◌, ℕ, List, ◌∷◌, ◌++◌, length, take, drop, get_or, take-append-drop, append_assoc, sym, ap, subst}
use Rattle.std.specs.List.{flat_map}
use Rattle.std.proofs.lemmas.List.{drop_more, take_more, flat_map_more}
use Rattle.std.proofs.lemmas.Grind.{flat_map-append}
use Rattle.ht_text.specs.Writes.{AddsFront}
use Rattle.ht_text.proofs.Writing.{adds_within, adds_behind}

-- the pieces are cut round each of them
pieces_at : {X : Type 0} (f : X → List ℕ) (items : List X) (i : ℕ) (item : X) → i < length items
    → flat_map f items ≡ (flat_map f (take i items) ++ f (get_or items i item)) ++ flat_map f (drop (i + 1) items)
pieces_at f items i item within =
    ap (λ t. flat_map f t) (sym (take-append-drop i items) ∙ ap (λ t. take i items ++ t) (drop_more items i item within))
    ∙ flat_map-append f (take i items) (get_or items i item ∷ drop (i + 1) items)
    ∙ sym (append_assoc (flat_map f (take i items)) (f (get_or items i item)) (flat_map f (drop (i + 1) items)))

-- some of them and a front of the next one were written
pub adds_piece : {X : Type 0} (f : X → List ℕ) (old out new : List ℕ) (items : List X) (item : X) (i : ℕ) → i < length items
    → out ≡ old ++ flat_map f (take i items) → AddsFront out new (f (get_or items i item)) → AddsFront old new (flat_map f items)
adds_piece f old out new items item i within wrote h =
    subst (λ t. AddsFront old new t) (sym (pieces_at f items i item within))
    (adds_within old new (flat_map f (take i items) ++ f (get_or items i item)) (flat_map f (drop (i + 1) items))
    (adds_behind old out new (flat_map f (take i items)) (f (get_or items i item)) wrote h))

-- some of them and the next one were written
pub wrote_piece : {X : Type 0} (f : X → List ℕ) (old out new : List ℕ) (items : List X) (item : X) (i : ℕ) → i < length items
    → out ≡ old ++ flat_map f (take i items) → new ≡ out ++ f (get_or items i item) → new ≡ old ++ flat_map f (take (i + 1) items)
wrote_piece f old out new items item i within wrote next =
    next ∙ ap (λ t. t ++ f (get_or items i item)) wrote ∙ flat_map_more f old (take i items) (get_or items i item)
    ∙ ap (λ t. old ++ flat_map f t) (sym (take_more items i item within))
