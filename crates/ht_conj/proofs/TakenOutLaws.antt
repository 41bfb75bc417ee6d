-- Lists with one element taken out.
use Rattle.std.proofs.Common.{◌≡◌, suc, ◌⊎◌, inl, inr, List, [], ◌∷◌, ◌++◌, length, map, refl, sym, ap, ◌∙◌, subst, arith, AllPairs, Contains}
use Rattle.std.proofs.lemmas.List.{length-append, map-append}
use Rattle.std.proofs.lemmas.List.Elements.{All-contains, Contains-append_left, Contains-append_right, Contains-append_cases}
use Rattle.ht_word.proofs.ListLaws.{AllPairs-across, AllPairs-append, AllPairs-cons, AllPairs-head, AllPairs-left, AllPairs-right, AllPairs-tail, Contains-cons_cases, Contains-here, Contains-nil, Contains-there}
use Rattle.ht_word.proofs.WordLaws.{All-from_contains}
use Rattle.ht_conj.specs.Matchings.{IsTakenOut}

-- the first element is taken out
pub taken_head : {X : Type 0} (x : X) (xs : List X) → IsTakenOut x (x ∷ xs) xs
taken_head x xs = record { before = []; after = xs; old_is = refl; new_is = refl }

-- what is listed can be taken out
pub taken_listed : {X : Type 0} (xs : List X) (x : X) → Contains xs x → (rest : List X) × IsTakenOut x xs rest
taken_listed [] x c = absurd (Contains-nil x c)
taken_listed (y ∷ xs) x c = elim (Contains-cons_cases y xs x c) [
  | inl e ↦ (xs, subst (λ t. IsTakenOut t (y ∷ xs) xs) e (taken_head y xs))
  | inr k ↦ (let r = taken_listed xs x k in (y ∷ r.0, record { before = y ∷ r.1.before; after = r.1.after; old_is = ap (λ t. y ∷ t) r.1.old_is; new_is = ap (λ t. y ∷ t) r.1.new_is }))
]

module _ {X : Type 0} {x : X} {old new : List X} (t : IsTakenOut x old new) where
  pub taken_length : length old ≡ suc (length new)
  taken_length = omega (arith, ap length t.old_is, ap length t.new_is, length-append t.before (x ∷ t.after), length-append t.before t.after)

  pub taken_here : Contains old x
  taken_here = subst (λ xs. Contains xs x) (sym t.old_is) (Contains-append_right t.before (x ∷ t.after) x (Contains-here x t.after))

  pub taken_more : (y : X) → Contains new y → Contains old y
  taken_more y c = subst (λ xs. Contains xs y) (sym t.old_is) (elim (Contains-append_cases t.before t.after y (subst (λ xs. Contains xs y) t.new_is c)) [
    | inl k ↦ Contains-append_left t.before (x ∷ t.after) y k
    | inr k ↦ Contains-append_right t.before (x ∷ t.after) y (Contains-there x t.after y k)
  ])

  pub taken_cases : (y : X) → Contains old y → (x ≡ y) ⊎ Contains new y
  taken_cases y c = elim (Contains-append_cases t.before (x ∷ t.after) y (subst (λ xs. Contains xs y) t.old_is c)) [
    | inl k ↦ inr (subst (λ xs. Contains xs y) (sym t.new_is) (Contains-append_left t.before t.after y k))
    | inr k ↦ elim (Contains-cons_cases x t.after y k) [
      | inl e ↦ inl e
      | inr e ↦ inr (subst (λ xs. Contains xs y) (sym t.new_is) (Contains-append_right t.before t.after y e))
    ]
  ]

  pub taken_map : {Y : Type 0} (f : X → Y) → IsTakenOut (f x) (map f old) (map f new)
  taken_map f = record {
    before = map f t.before;
    after = map f t.after;
    old_is = ap (map f) t.old_is ∙ map-append f t.before (x ∷ t.after);
    new_is = ap (map f) t.new_is ∙ map-append f t.before t.after;
  }

  module _ (R : X → X → Type 0) (turn : (y z : X) → R y z → R z y) where
    -- what holds of each two elements holds of the others, and of them with what is taken out
    pub taken_pairs : AllPairs R old → AllPairs R new × ((y : X) → Contains new y → R x y)
    taken_pairs pairs =
        let h = subst (AllPairs R) t.old_is pairs in
        let right = AllPairs-right R t.before (x ∷ t.after) h in (
          subst (AllPairs R) (sym t.new_is) (AllPairs-append R t.before t.after (AllPairs-left R t.before (x ∷ t.after) h) (AllPairs-tail R x t.after right)
              (λ y z c e. AllPairs-across R t.before (x ∷ t.after) h y z c (Contains-there x t.after z e))),
          (λ y c. elim (Contains-append_cases t.before t.after y (subst (λ xs. Contains xs y) t.new_is c)) [
            | inl k ↦ turn y x (AllPairs-across R t.before (x ∷ t.after) h y x k (Contains-here x t.after))
            | inr k ↦ All-contains (R x) t.after y (AllPairs-head R x t.after right) k
          ]),
        )

    -- and back
    pub put_pairs : AllPairs R new → ((y : X) → Contains new y → R x y) → AllPairs R old
    put_pairs pairs others =
        let h = subst (AllPairs R) t.new_is pairs in
        let at : (y : X) → Contains (t.before ++ t.after) y → R x y = λ y c. others y (subst (λ xs. Contains xs y) (sym t.new_is) c) in
        subst (AllPairs R) (sym t.old_is) (AllPairs-append R t.before (x ∷ t.after) (AllPairs-left R t.before t.after h)
        (AllPairs-cons R x t.after (All-from_contains (R x) t.after (λ y c. at y (Contains-append_right t.before t.after y c))) (AllPairs-right R t.before t.after h))
        (λ y z c e. elim (Contains-cons_cases x t.after z e) [
          | inl s ↦ subst (R y) s (turn x y (at y (Contains-append_left t.before t.after y c)))
          | inr k ↦ AllPairs-across R t.before t.after h y z c k
        ]))
