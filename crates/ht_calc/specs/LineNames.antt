-- The names that lines read and bind, and what lines need and ask.
--
--     reads line              the names that the line reads, from left to right
--     binds line              the names that it binds, in their order
--     asks question name      the line that asks the element of this name
--     NeedsGroup line         the line is any but a blank one and `group`
--     MeetsBudget shape line  its words are of the shape, and its answer takes the quasinormal bases of the elements whose names it reads
use Rattle.std.specs.Prelude.{ℕ, List, [], ◌∷◌, ⊤}
use Rattle.ht_word.specs.declared.shape.Shape.{Shape}
use Rattle.ht_word.specs.Words.{IsWordOf}
use Rattle.ht_script.specs.declared.line.Line.{Line}
use Rattle.ht_script.specs.declared.line.Line.TheVariants.{Blank, Group, Reduce, LetRows, LetProduct, Show, Equal, Image, Load, Basis, Order, Types, Profile, Parts, Conj, Ponds, Share, Power}
use Rattle.ht_ask.specs.declared.question.Question.{Question}
use Rattle.ht_ask.specs.declared.question.Question.TheVariants as question
use Rattle.ht_calc.specs.Products.{names_of}

abbrev pub reads : Line → List (List ℕ)
reads Blank = []
reads (Group n r) = []
reads (Reduce rows) = []
reads (LetRows name rows) = []
reads (LetProduct name factors) = names_of factors
reads (Show name) = name ∷ []
reads (Equal first second) = first ∷ second ∷ []
reads (Image name word) = name ∷ []
reads (Load name file) = []
reads (Basis name) = name ∷ []
reads (Order name) = name ∷ []
reads (Types name) = name ∷ []
reads (Profile name) = name ∷ []
reads (Parts periodic infinite whole) = whole ∷ []
reads (Conj name first second) = first ∷ second ∷ []
reads (Ponds name) = name ∷ []
reads (Share name first second) = name ∷ []
reads (Power first second) = first ∷ second ∷ []

abbrev pub binds : Line → List (List ℕ)
binds Blank = []
binds (Group n r) = []
binds (Reduce rows) = []
binds (LetRows name rows) = name ∷ []
binds (LetProduct name factors) = name ∷ []
binds (Show name) = []
binds (Equal first second) = []
binds (Image name word) = []
binds (Load name file) = name ∷ []
binds (Basis name) = []
binds (Order name) = []
binds (Types name) = []
binds (Profile name) = []
binds (Parts periodic infinite whole) = periodic ∷ infinite ∷ []
binds (Conj name first second) = name ∷ []
binds (Ponds name) = []
binds (Share name first second) = []
binds (Power first second) = []

abbrev pub asks : Question → List ℕ → Line
asks question.Show name = Show name
asks question.Basis name = Basis name
asks question.Order name = Order name
asks question.Types name = Types name
asks question.Profile name = Profile name
asks question.Ponds name = Ponds name

abbrev pub NeedsGroup : Line → Type 0
NeedsGroup Blank = ⊥
NeedsGroup (Group n r) = ⊥
NeedsGroup _ = ⊤

abbrev pub MeetsBudget : Shape → Line → Type 0
MeetsBudget shape (Basis name) = ⊤
MeetsBudget shape (Order name) = ⊤
MeetsBudget shape (Types name) = ⊤
MeetsBudget shape (Profile name) = ⊤
MeetsBudget shape (Parts periodic infinite whole) = ⊤
MeetsBudget shape (Conj name first second) = ⊤
MeetsBudget shape (Ponds name) = ⊤
MeetsBudget shape (Share name first second) = IsWordOf shape first × IsWordOf shape second
MeetsBudget shape (Power first second) = ⊤
MeetsBudget shape _ = ⊥
