-- What a parse finds for the two options of a command, of which the first has a default.
use Rattle.std.proofs.Common.{◌≡◌, ◌∙◌, ◌<◌, ◌≤◌, ap, ℕ, Bool, true, false, List, [], ◌∷◌, length, is_some, Option, Some, None, Ok, Err, refl, sym, subst, inl, inr, zero, suc, arith, slice_index, codes, map, not}
use Rattle.std.specs.Prelude.{◌↔◌, find, option_map, slice_get, pos, Result, IsErrAnd, IsSome}
use Rattle.std.proofs.lemmas.List.{length-map}
use Rattle.std.specs.Borrow.{Bor}
use Rattle.std.specs.List.{All, slice_index_or}
use Rattle.std.specs.Str.{bytes_eq}
use Rattle.std.proofs.lemmas.List.Elements.{All-get_or, All-drop}
use Rattle.std.proofs.lemmas.Slice.Eq.{bytes_eq-Decides}
use Rattle.clap.specs.Texts.{items_of}
use Rattle.clap.specs.Words.{Accepts, AddsArg, App, IsParsed, new_app, with_rule, IsParsedFrom, IsPlain, IsPlainArg, IsSignedIn, Rule, SameRules, Text, app_of, args_of, found_of, groups_of, has_subcommand, one_text, read_as, reading_of, rule_of, without_minus, BuildsTo, FailsBy, HasKind, ReadsOne, fault_of, is_simple, is_simple_and_free, matches_of, one_of, rows_of}
use Rattle.clap.specs.Facts.{Entry, EntryPasses, HasId, PassesArg, ValuesPass, WantsDefault, least_values, parser_of_value}
use Rattle.clap.specs.Built.{IsAuto}
use Rattle.clap.specs.Simple.{on_top}
use Rattle.clap.specs.Walk.{is_free_arg, is_simple_arg}
use Rattle.clap.specs.declared.builder.action.ArgAction.TheVariants.{Set, Count}
use Rattle.clap.specs.declared.builder.arg.Arg.{Arg}
use Rattle.clap.specs.declared.builder.command.Command.{Command}
use Rattle.clap.specs.declared.builder.command.Command.TheViews.{out-Command}
use Rattle.clap.specs.declared.builder.value_parser.Reading.{Reading}
use Rattle.clap.specs.declared.builder.value_parser.ValueParser.{ValueParser}
use Rattle.clap.specs.declared.builder.value_parser.ValueParser.TheVariants as parser
use Rattle.clap.specs.declared.parser.matches.ArgMatches.{ArgMatches}
use Rattle.clap.specs.declared.parser.matches.Found.{Found}
use Rattle.clap.specs.declared.error.Error.{Error}
use Rattle.clap.proofs.CallerLemmas.{default_present, same_rules_by_id}
use Rattle.clap.proofs.CallerReads.{signed_reads}
use Rattle.clap.proofs.FaultLemmas.{failed_up}
use Rattle.clap.proofs.SimpleLemmas.{is_false, is_nil, plain_fields}
use Rattle.clap.proofs.WalkLemmas.{both, one_text-rows}
use Rattle.std.specs.Str.Parse.{ParsesUnsigned}
use Rattle.ht_calc.specs.CommandLines.{IsBudgetOf, IsSampleOf, command_app, budget_rule, sample_rule}

-- an entry of an id that some place has is found, and what holds of each entry holds of it
entry_at : (P : Entry → Type 0) (xs : List Entry) (id : List ℕ) (i : ℕ) → All P xs → i < length xs
    → ((d : Entry) → bytes_eq (slice_index_or xs i d).0.now id ≡ true)
    → (e : Entry) × (find (λ e. bytes_eq e.0.now id) xs ≡ Some e) × (bytes_eq e.0.now id ≡ true) × P e
entry_at P [] id i all lt hit = absurd (omega arith)
entry_at P (x ∷ xs) id zero all lt hit =
    let here : bytes_eq x.0.now id ≡ true = hit x in
    (x, rw here refl, here, All-get_or P (x ∷ xs) 0 x (omega arith) all)
entry_at P (x ∷ xs) id (suc i) all lt hit = go (bytes_eq x.0.now id) refl (entry_at P xs id i (All-drop P 1 (x ∷ xs) all) (omega arith) hit)
  where
    go : (t : Bool) → bytes_eq x.0.now id ≡ t
        → ((e : Entry) × (find (λ e. bytes_eq e.0.now id) xs ≡ Some e) × (bytes_eq e.0.now id ≡ true) × P e)
        → (e : Entry) × (find (λ e. bytes_eq e.0.now id) (x ∷ xs) ≡ Some e) × (bytes_eq e.0.now id ≡ true) × P e
    go true t rest = (x, rw t refl, t, All-get_or P (x ∷ xs) 0 x (omega arith) all)
    go false t rest = (rest.0, rw t rest.1, rest.2, rest.3)

-- the first of some values, as it is read
first_read : (P : Bor (List ℕ) → Type 0) (how : Reading) (vs : List (Bor (List ℕ))) → 0 < length vs → All P vs
    → (v : Bor (List ℕ)) × (option_map (λ s. read_as how s.now) (slice_get vs 0) ≡ Some (read_as how v.now)) × P v
first_read P how [] some all = absurd (omega arith)
first_read P how (v ∷ vs) some all = (v, refl, All-get_or P (v ∷ vs) 0 v (omega arith) all)

-- what is asked of the arguments of an id
record TakesOne (q : ValueParser) (x : Arg) : Type 0 where
  parser : x.value_parser ≡ Some q
  action : x.action ≡ Some Set
  delimiter : x.val_delim ≡ None
  least : 1 ≤ least_values x

-- all arguments of an id take one value
abbrev AllTakeOne : Command → List ℕ → ValueParser → Type 0
AllTakeOne c id q =
    (j : ℕ) (x : Arg) → j < length (args_of c) → slice_index_or (args_of c) j x ≡ x → bytes_eq x.id.now id ≡ true → TakesOne q x

-- an entry of such an id that is no group's has a value, and is read as the parser says
entry_filled : (c : Command) (e : Entry) (q : ValueParser) → AllTakeOne c e.0.now q → (e.1.is_group ≡ true → ⊥) → EntryPasses c e
    → 0 < length e.1.vals.items
entry_filled c e q takes no_group passes = elim passes.1 [
  | inl h ↦ absurd (no_group h.0)
  | inr (inl v) ↦ v
  | inr (inr (inl h)) ↦
      let any = h.1 in
      let is_set : any.1.action ≡ Some Set = (takes any.0 any.1 any.2 any.3 any.4.0).action in
      let bad : Set ≡ Count = rw is_set at any.4.1 in
      cc
  | inr (inr (inr any)) ↦
      let t = takes any.0 any.1 any.2 any.3 any.4.0 in
      elim any.4.1 [
        | inl none ↦ let one = t.least in absurd (omega arith)
        | inr some ↦ let bad : false ≡ true = rw t.delimiter at some in cc
      ]
]

entry_reading : (c : Command) (e : Entry) (q : ValueParser) → AllTakeOne c e.0.now q → (e.1.is_group ≡ true → ⊥) → EntryPasses c e
    → e.1.reading ≡ reading_of q
entry_reading c e q takes no_group passes = elim passes.4 [
  | inl g ↦ absurd (no_group g)
  | inr any ↦
      let t = takes any.0 any.1 any.2 any.3 any.4.0 in
      sym any.4.1 ∙ ap (λ p. reading_of (parser_of_value p)) t.parser
]

passes_parser : (c : Command) (id : List ℕ) (q : ValueParser) (text : List ℕ) → AllTakeOne c id q → PassesArg c id text
    → (i : Bool) × Accepts i q text
passes_parser c id q text takes any =
    let t = takes any.0 any.1 any.2 any.3 any.4.0 in
    (any.1.ignore_case, subst (λ p. Accepts any.1.ignore_case (parser_of_value p) text) t.parser any.4.1)

-- the entry of an id whose arguments take one value has a text that their parser accepts
entry_reads : (c : Command) (f : Found) (id : List ℕ) (q : ValueParser) → ValuesPass c f → groups_of c ≡ [] → (id ≡ [] → ⊥)
    → HasId f id → AllTakeOne c id q
    → (t : List ℕ) × (one_text f id ≡ Some (read_as (reading_of q) t)) × ((i : Bool) × Accepts i q t)
entry_reads c f id q values no_groups named has takes =
    let got = entry_at (EntryPasses c) f.entries.items id has.0 values has.1 has.2 in
    let e = got.0 in
    let key : e.0.now ≡ id = (bytes_eq-Decides e.0.now id).0 got.2 in
    let takes_e : AllTakeOne c e.0.now q = subst (λ w. AllTakeOne c w q) (sym key) takes in
    let no_group : e.1.is_group ≡ true → ⊥ = λ g. elim (got.3.3 g) [
      | inl empty ↦ named (sym key ∙ empty)
      | inr lots ↦ let bad : 0 < 0 = rw no_groups at lots in absurd (omega arith)
    ] in
    let all : All (λ v. PassesArg c e.0.now v.now) e.1.vals.items = elim got.3.0 [ inl g ↦ absurd (no_group g) | inr vals ↦ vals ] in
    let first = first_read (λ v. PassesArg c e.0.now v.now) e.1.reading e.1.vals.items (entry_filled c e q takes_e no_group got.3) all in
    let text : one_text f id ≡ Some (read_as e.1.reading first.0.now) = rw got.1 first.1 in (
      first.0.now,
      text ∙ ap (λ r. Some (read_as r first.0.now)) (entry_reading c e q takes_e no_group got.3),
      passes_parser c e.0.now q first.0.now takes_e first.2,
    )

-- of two arguments with two ids
first_of_two : (a b : Arg) → (bytes_eq b.id.now a.id.now ≡ true → ⊥) → (j : ℕ) (e : Arg) → j < length (a ∷ b ∷ [])
    → bytes_eq (slice_index_or (a ∷ b ∷ []) j e).id.now a.id.now ≡ true → j ≡ 0
first_of_two a b apart zero e low same = refl
first_of_two a b apart (suc zero) e low same = absurd (apart same)
first_of_two a b apart (suc (suc j)) e low same = absurd (omega arith)

-- and so of the first of two arguments of a command, which has a default
first_default_reads : (old : Command) (m : ArgMatches) (p : IsParsedFrom old m) (a b : Arg) (q : ValueParser) → args_of old ≡ a ∷ b ∷ []
    → (bytes_eq b.id.now a.id.now ≡ true → ⊥) → IsPlain old → (out-Command old).has_globals ≡ false → WantsDefault a → TakesOne q a
    → (a.id.now ≡ [] → ⊥) → (IsAuto a → ⊥)
    → (t : List ℕ) × (one_text (found_of m) a.id.now ≡ Some (read_as (reading_of q) t)) × ((i : Bool) × Accepts i q t)
first_default_reads old m p a b q list apart plain globals wants takes named own =
    let elem : slice_index_or (args_of old) 0 a ≡ a = ap (λ l. slice_index_or l 0 a) list in
    let lt : 0 < length (args_of old) = subst (λ l. 0 < length l) (sym list) (omega arith) in
    let has : HasId (found_of m) a.id.now =
    subst (λ (x : Arg). HasId (found_of m) x.id.now) elem
    (default_present old m p globals 0 a lt (subst WantsDefault (sym elem) wants)) in
    let only : (j : ℕ) (e : Arg) → j < length (args_of old) → bytes_eq (slice_index_or (args_of old) j e).id.now (slice_index_or (args_of old) 0 a).id.now ≡ true → j ≡ 0 =
    λ j e low same. first_of_two a b apart j e (subst (λ l. j < length l) list low)
    (subst (λ l. bytes_eq (slice_index_or l j e).id.now (slice_index_or l 0 a).id.now ≡ true) list same) in
    let own_elem : IsAuto (slice_index_or (args_of old) 0 a) → ⊥ = subst (λ (x : Arg). IsAuto x → ⊥) (sym elem) own in
    let rules : AllTakeOne p.built a.id.now q =
    λ j x high at same.
    let s : SameRules a x = subst (λ (y : Arg). SameRules y x) elem
    (same_rules_by_id old m p 0 a lt only own_elem j x high at (subst (λ (y : Arg). bytes_eq x.id.now y.id.now ≡ true) (sym elem) same)) in
    record {
      parser = s.parser q takes.parser;
      action = s.action Set takes.action;
      delimiter = s.val_delim ∙ takes.delimiter;
      least = s.least takes.action takes.least;
    } in
    entry_reads p.built (found_of m) a.id.now q (p.parsed (p.from.globals ∙ globals)).values (p.from.plain plain).1 named has rules

-- ---- the command of this crate

-- a command without options is this one with the two options
pub command_is : (old mid new : Command) (a b : Arg) → app_of old ≡ on_top (λ s. record s { no_binary_name = true; disable_help_flag = true }) (new_app (codes "htcalc"))
    → rule_of a ≡ budget_rule → a.global ≡ false → AddsArg old a mid → rule_of b ≡ sample_rule → b.global ≡ false → AddsArg mid b new → app_of new ≡ command_app
command_is old mid new a b top first first_own adds second second_own more =
    more.shape second_own ∙ ap (λ (rule : Rule). with_rule (app_of mid) rule) second
    ∙ ap (λ (app : App). with_rule app sample_rule) (adds.shape first_own ∙ ap (λ (rule : Rule). with_rule (app_of old) rule) first ∙ ap (λ (app : App). with_rule app budget_rule) top)

-- a list whose image has two items has two
two_items : {X Y : Type 0} (f : X → Y) (xs : List X) (y z : Y) → map f xs ≡ y ∷ z ∷ [] → (x : X) × (w : X) × (xs ≡ x ∷ w ∷ []) × (f x ≡ y) × (f w ≡ z)
two_items f [] y z e = let bad = ap length e in absurd (omega arith)
two_items f (x ∷ []) y z e = let bad = ap length e in absurd (omega arith)
two_items f (x ∷ w ∷ []) y z e = (x, w, refl, ap (λ l. slice_index_or l 0 y) e, ap (λ l. slice_index_or l 1 y) e)
two_items f (x ∷ w ∷ v ∷ xs) y z e = let bad = ap length e in absurd (omega arith)

all_of_two : (P : Arg → Type 0) (a b : Arg) → P a → P b → All P (a ∷ b ∷ [])
all_of_two P a b h k zero d lt = h
all_of_two P a b h k (suc zero) d lt = k
all_of_two P a b h k (suc (suc j)) d lt = absurd (omega arith)

none_of : {X : Type 0} (o : Option X) → not (is_some o) ≡ true → o ≡ None
none_of None e = refl
none_of (Some x) e = cc

-- what the test of a simple argument says of overrides, conditions of defaults, groups and delimiter
simple_facts : (a : Arg) → is_simple_arg a ≡ true
    → (a.overrides.items ≡ []) × (a.default_vals_ifs.items ≡ []) × (a.groups.items ≡ []) × (a.val_delim ≡ None)
simple_facts a simple =
    let p = both _ _ simple in
    let q = both _ _ p.1 in
    let r = both _ _ q.1 in
    let s = both _ _ r.1 in
    (is_nil _ p.0, is_nil _ q.0, is_nil _ r.0, none_of _ s.0)

plain_arg : (a : Arg) (rule : Rule) → rule.is_simple ≡ true → rule.is_free ≡ true → rule_of a ≡ rule → IsPlainArg a
plain_arg a rule simple is_free e =
    let facts = simple_facts a (ap (λ (r : Rule). r.is_simple) e ∙ simple) in
    let free : is_free_arg a ≡ true = ap (λ (r : Rule). r.is_free) e ∙ is_free in
    let s = both _ _ free in
    let t = both _ _ s.1 in
    (is_false _ s.0, is_nil _ t.0, facts.0, facts.2)

takes_one : (a : Arg) → rule_of a ≡ budget_rule → TakesOne (parser.Signed (pos 1) (pos 65536)) a
takes_one a e =
    let range : a.num_vals ≡ None = ap (λ (r : Rule). r.range) e in
    record {
      parser = ap (λ (r : Rule). r.parser) e;
      action = ap (λ (r : Rule). r.action) e;
      delimiter = (simple_facts a (ap (λ (r : Rule). r.is_simple) e)).3;
      least = rw range (omega arith);
    }

wants_default : (a : Arg) → rule_of a ≡ budget_rule → WantsDefault a
wants_default a e =
    let texts : map (λ s. s.now) (items_of a.default_vals) ≡ codes "2000" ∷ [] = ap (λ (r : Rule). r.defaults) e in
    let one : length (items_of a.default_vals) ≡ 1 = simp length-map at (ap length texts) in
    ((simple_facts a (ap (λ (r : Rule). r.is_simple) e)).1, omega arith)

-- what a parse finds for the first option
budget_reads : (old built : Command) (m : ArgMatches) → app_of old ≡ command_app → BuildsTo old built
    → ((out-Command built).has_globals ≡ false → IsParsed built (found_of m) (has_subcommand m))
    → (t : List ℕ) × (one_text (found_of m) (codes "budget") ≡ Some (without_minus t)) × IsSignedIn (pos 1) (pos 65536) t
budget_reads old built m is from parsed =
    let two = two_items rule_of (args_of old) budget_rule sample_rule (ap (λ (a : App). a.top.rules) is) in
    let a = two.0 in
    let b = two.1 in
    let id : a.id.now ≡ codes "budget" = ap (λ (r : Rule). r.id) two.3 in
    let other : b.id.now ≡ codes "sample" = ap (λ (r : Rule). r.id) two.4 in
    let first : (t : List ℕ) → a.id.now ≡ t → slice_index t 0 ≡ 98 = λ t e. rw (← e, id) refl in
    let fields = plain_fields old (ap (λ (a : App). a.top.is_plain) is) in
    let plain : IsPlain old =
    (subst (All IsPlainArg) (sym two.2) (all_of_two IsPlainArg a b (plain_arg a budget_rule refl refl two.3) (plain_arg b sample_rule refl refl two.4)), fields.groups) in
    let got = first_default_reads old m (record { built = built; from = from; parsed = parsed }) a b (parser.Signed (pos 1) (pos 65536)) two.2
    (λ same. let bad : 115 ≡ 98 = first (codes "sample") (sym ((bytes_eq-Decides b.id.now a.id.now).0 same) ∙ other) in absurd (omega arith))
    plain fields.globals (wants_default a two.3) (takes_one a two.3)
    (λ e. let bad : 0 ≡ 98 = first [] e in absurd (omega arith))
    (λ auto. elim auto [
      | inl h ↦ let bad : 104 ≡ 98 = first _ h in absurd (omega arith)
      | inr h ↦ let bad : 118 ≡ 98 = first _ h in absurd (omega arith)
    ]) in
    (got.0, subst (λ w. one_text (found_of m) w ≡ Some (without_minus got.0)) id got.1, got.2.1)

-- the text and the number that there are for the first option, where r is what a typed getter reads
pub record Given (f : Found) (r : Option ℕ) : Type 0 where
  pub text : Text
  pub found : one_text f (codes "budget") ≡ Some text
  pub number : ℕ
  pub is : r ≡ Some number
  pub parses : ParsesUnsigned {E = ℕ} 32 10 text (Ok number)
  pub low : 1 ≤ number
  pub high : number ≤ 65536

pub given : (E : Type 0) (G : List ℕ → Result ℕ E → Type 0) (old built : Command) (m : ArgMatches) (r : Option ℕ) → app_of old ≡ command_app
    → BuildsTo old built → ((out-Command built).has_globals ≡ false → IsParsed built (found_of m) (has_subcommand m))
    → ((t : List ℕ) → one_text (found_of m) (codes "budget") ≡ Some t → ReadsOne G t r)
    → ((u : List ℕ) (x : Result ℕ E) → G u x → ParsesUnsigned 32 10 u x) → Given (found_of m) r
given E G old built m r is from parsed value only =
    let got = budget_reads old built m is from parsed in
    let reads : ReadsOne G (without_minus got.0) r = value (without_minus got.0) got.1 in
    let read = signed_reads E G 32 1 65536 got.0 r reads only (omega arith) got.2 in
    let gives : ReadsOne G (without_minus got.0) (Some read.0) = subst (ReadsOne G (without_minus got.0)) read.1 reads in
    record {
      text = without_minus got.0;
      found = got.1;
      number = read.0;
      is = read.1;
      parses = only _ (Ok read.0) gives;
      low = read.2;
      high = read.3;
    }

-- ---- what the number of a parse is, with what clap says of this command

command_simple : is_simple command_app ≡ true
command_simple = refl

command_simple_and_free : is_simple_and_free command_app ≡ true
command_simple_and_free = refl

pub is_some_by : {f : Found} {r : Option ℕ} → Given f r → IsSome r
is_some_by got = subst IsSome (sym got.is) refl

same_number : {f : Found} {r : Option ℕ} {b : ℕ} → r ≡ Some b → (got : Given f r) → got.number ≡ b
same_number {b = b} e got = let same : Some got.number ≡ Some b = sym got.is ∙ e in cc

pub limits_by : {f : Found} {r : Option ℕ} {b : ℕ} → r ≡ Some b → Given f r → (1 ≤ b) × (b ≤ 65536)
limits_by e got = let same = same_number e got in (subst (λ n. 1 ≤ n) same got.low, subst (λ n. n ≤ 65536) same got.high)

pub budget_by : (app : App) (words : List Text) → app ≡ command_app → (f : Found) {r : Option ℕ} {b : ℕ} → r ≡ Some b → Given f r
    → (is_simple app ≡ true → rows_of f ≡ matches_of app words) → IsBudgetOf words b
budget_by app words is f e got rows =
    let same : rows_of f ≡ matches_of command_app words =
    subst (λ a. rows_of f ≡ matches_of a words) is (rows (subst (λ a. is_simple a ≡ true) (sym is) command_simple)) in
    record {
      text = got.text;
      given = subst (λ rs. one_of (codes "budget") rs ≡ Some got.text) same (sym (one_text-rows f (codes "budget")) ∙ got.found);
      number = subst (λ n. ParsesUnsigned {E = ℕ} 32 10 got.text (Ok n)) (same_number e got) got.parses;
    }

-- ---- the number of the other option

-- what is read of a text that is a number
read_number : (E : Type 0) (G : List ℕ → Result ℕ E → Type 0) (t : List ℕ) (r : Option ℕ) (number : ℕ) → ((u : List ℕ) (x : Result ℕ E) → G u x → ParsesUnsigned 64 10 u x)
    → ReadsOne G t r → ParsesUnsigned {E = ℕ} 64 10 t (Ok number) → r ≡ Some number
read_number E G t None number only reads parses = let none = only t (Err reads.0) reads.1 in absurd (none parses.0)
read_number E G t (Some n) number only reads parses = let some = only t (Ok n) reads in ap Some (some.1 ∙ sym parses.1)

pub sample_by : (E : Type 0) (G : List ℕ → Result ℕ E → Type 0) (app : App) (words : List Text) (f : Found) (r : Option ℕ) → app ≡ command_app
    → (is_simple app ≡ true → rows_of f ≡ matches_of app words) → (one_text f (codes "sample") ≡ None → r ≡ None)
    → ((t : List ℕ) → one_text f (codes "sample") ≡ Some t → ReadsOne G t r)
    → ((u : List ℕ) (x : Result ℕ E) → G u x → ParsesUnsigned 64 10 u x) → (number : ℕ) → IsSampleOf words number ↔ (r ≡ Some number)
sample_by E G app words f r is rows none value only number = (there, back (one_text f (codes "sample")) refl)
  where
    same : one_text f (codes "sample") ≡ one_of (codes "sample") (matches_of command_app words)
    same = one_text-rows f (codes "sample") ∙ ap (one_of (codes "sample")) (subst (λ a. rows_of f ≡ matches_of a words) is (rows (subst (λ a. is_simple a ≡ true) (sym is) command_simple)))

    there : IsSampleOf words number → r ≡ Some number
    there given = read_number E G given.text r number only (value given.text (same ∙ given.given)) given.parses

    back : (o : Option (List ℕ)) → one_text f (codes "sample") ≡ o → r ≡ Some number → IsSampleOf words number
    back None found some = let bad = sym (none found) ∙ some in cc
    back (Some t) found some =
        let reads : ReadsOne G t (Some number) = subst (ReadsOne G t) some (value t found) in record {
          text = t;
          given = sym same ∙ found;
          parses = only t (Ok number) reads;
        }

-- ---- when the parse fails

at_command : (P : App → Type 0) (app : App) → app ≡ command_app → (is_simple_and_free app ≡ true → P app) → P command_app
at_command P app is at = subst P is (at (subst (λ a. is_simple_and_free a ≡ true) (sym is) command_simple_and_free))

pub passed : (app : App) (words : List Text) → app ≡ command_app → (is_simple_and_free app ≡ true → fault_of app words ≡ [])
    → fault_of command_app words ≡ []
passed app words is at = at_command (λ a. fault_of a words ≡ []) app is at

pub failed : {T : Type 0} (app : App) (words : List Text) (r : Result T Error) (e : Error) → app ≡ command_app
    → (is_simple_and_free app ≡ true → HasKind (fault_of app words) e) → IsErrAnd r (λ x. x ≡ e) → FailsBy (fault_of command_app words) r
failed app words r e is at same =
    failed_up r e (λ _. fault_of command_app words ≡ []) (fault_of command_app words) same (at_command (λ a. HasKind (fault_of a words) e) app is at)
