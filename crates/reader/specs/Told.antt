-- What the functions of the reader promise.
use Rattle.std.specs.Prelude.{◌≡◌, ℕ, ◌-◌, ◌<◌, ◌≤◌, Bool, true, false, List, [], ◌∷◌, ◌++◌, length, take, drop, None, Ok, Err, Option, Result, vec_items}
use Rattle.std.specs.declared.alloc.AllocError.{AllocError}
use Rattle.std.specs.declared.ops.ControlFlow.{ControlFlow}
use Rattle.std.specs.declared.ops.ControlFlow.TheVariants.{Continue, Break}
use Rattle.std.proofs.Math.Option.{none, some}
use Rattle.model.specs.Values.{Name, Raw, Raws, Mems}
use Rattle.text.specs.declared.fault.Fault.{Fault}
use Rattle.text.specs.declared.fault.Fault.TheVariants.{BadText, TooDeep, NoSpace, RepeatedName, LongNumber, NoMemory}
use Rattle.text.specs.declared.language.Language.{Language}
use Rattle.text.specs.declared.language.Language.TheVariants.{Graphql}
use Rattle.text.specs.declared.token.Lexeme.{Lexeme}
use Rattle.text.specs.Places.{is_end}
use Rattle.text.specs.TokenGrammar.{Mark, Lexical, TokenOf, a_mark}
use Rattle.text.specs.TokenFound.{view_of, Holds}
use Rattle.names.specs.declared.names.Link.{Link}
use Rattle.names.specs.declared.names.Names.{Names}
use Rattle.names.specs.declared.part.Part.{Part}
use Rattle.names.specs.Parts.{PartFits, bytes_of}
use Rattle.names.specs.Index.{Sound, names_from}
use Rattle.source.specs.declared.nodes.Content.{Content}
use Rattle.source.specs.declared.nodes.Node.{Node}
use Rattle.source.specs.declared.nodes.Nodes.{Nodes}
use Rattle.source.specs.Nodes.{node_at, headed}
use Rattle.source.specs.Table.{Table, table_of, Says, Stands, StandsAll, StandsMems, Keeps, past_of}
use Rattle.reader.specs.declared.reading.Reader.{Reader}
use Rattle.reader.specs.Manner.{Manner}
use Rattle.reader.specs.Tokens.{Sight, blind, Seen, Sights}
use Rattle.reader.specs.Grammar.{Leaf, name_of}
use Rattle.reader.specs.Reading.{got, fails, Starts, turn, done, again, halts, repeats, NameAt, Reads, ReadsList, ReadsObject}

-- P of a fault of the text; of want of memory nothing is said
abbrev pub Blames : Fault → (Fault → Type 0) → Type 0
Blames (BadText k) P = P (BadText k)
Blames (TooDeep k) P = P (TooDeep k)
Blames (NoSpace k) P = P (NoSpace k)
Blames (RepeatedName k) P = P (RepeatedName k)
Blames (LongNumber k) P = P (LongNumber k)
Blames NoMemory P = Unit {0}

-- the program's token is the one that stands in the text
pub record Lexed (language : Language) (text : List ℕ) (l : Lexeme) : Type 0 where
  pub token : Lexical
  pub reads : TokenOf language (drop l.start text) token (drop l.end text)
  pub holds : Holds language text l.start l.end (view_of l.token) token
  pub ordered : l.start ≤ l.end
  pub within : l.end ≤ length text
  pub some : is_end l.token ≡ false → l.start < l.end

-- it is the first token from `at` on
pub record Looks (language : Language) (text : List ℕ) (at : ℕ) (l : Lexeme) : Type 0 where
  pub lexed : Lexed language text l
  pub seen : Seen language text at l.start l.end lexed.token
  pub onward : at ≤ length text → at ≤ l.start

abbrev pub LookTold : Language → List ℕ → ℕ → Result Lexeme Fault → Type 0
LookTold language text at (Ok l) = Looks language text at l
LookTold language text at (Err f) = Sights language text at (blind f)

-- a text and a pool without nodes
abbrev pub bare : List ℕ → List ℕ → Table
bare text pool = record { text = text; nodes = []; pool = pool }

-- the node of a value, with nothing below it; the pool may have grown
pub record NodeFor (text before after : List ℕ) (name : Option Part) (t : Raw) (n : Node) : Type 0 where
  pub says : Says (bare text after) n t
  pub named : n.name ≡ name
  pub size : n.size ≡ 1
  pub more : List ℕ
  pub grown : after ≡ before ++ more

-- the node of a value that is one token
pub record LeafNode (text before after : List ℕ) (name : Option Part) (start : ℕ) (x : Lexical) (n : Node) : Type 0 where
  pub tree : Raw
  pub leaf : Leaf start x tree
  pub node : NodeFor text before after name tree n

-- what a value that is one token says of itself: its node, under whatever name
abbrev pub LeafContent : (text before after : List ℕ) → ℕ → Lexical → Content → Type 0
LeafContent text before after start x c = (name : Option Part) → LeafNode text before after name start x (headed c start name)

abbrev pub LeafTold : (text before after : List ℕ) → ℕ → Lexical → Result Content Fault → Type 0
LeafTold text before after start x (Ok c) = LeafContent text before after start x c
LeafTold text before after start x (Err f) = f ≡ NoMemory

-- the bytes of a part, which the text holds or which were added to the pool
pub record PartFor (text before after bytes : List ℕ) (p : Part) : Type 0 where
  pub fits : PartFits text after p
  pub is : bytes_of text after p ≡ bytes
  pub more : List ℕ
  pub grown : after ≡ before ++ more

abbrev pub PartTold : (text before after bytes : List ℕ) → Result Part Fault → Type 0
PartTold text before after bytes (Ok p) = PartFor text before after bytes p
PartTold text before after bytes (Err f) = f ≡ NoMemory

-- the node of a value that begins with a token
pub record StartNode (text before after : List ℕ) (name : Option Part) (start : ℕ) (x : Lexical) (n : Node) : Type 0 where
  pub tree : Raw
  pub starts : Starts start x tree
  pub node : NodeFor text before after name tree n

-- what a value says of itself that begins with a token
abbrev pub StartContent : (text before after : List ℕ) → ℕ → Lexical → Content → Type 0
StartContent text before after start x c = (name : Option Part) → StartNode text before after name start x (headed c start name)

abbrev pub StartTold : (text before after : List ℕ) → ℕ → Lexical → Result Content Fault → Type 0
StartTold text before after start x (Ok c) = StartContent text before after start x c
StartTold text before after start x (Err f) = Blames f (λ g. (g ≡ BadText start) × ((t : Raw) → Starts start x t → ⊥))

-- the first token from `at` on, and the node of the value that it begins
pub record Begun (language : Language) (text : List ℕ) (at : ℕ) (before after : List ℕ) (name : Option Part) (l : Lexeme) (n : Node) : Type 0 where
  pub looks : Looks language text at l
  pub starts : StartNode text before after name l.start looks.lexed.token n

abbrev pub BeginTold : {W : Type 0} → Language → Reader W → ℕ → Option Part → (before after : List ℕ) → Result (Lexeme × Node) Fault → Type 0
BeginTold language r at name before after (Ok p) = Begun language r.text.now at before after name p.0 p.1
BeginTold language r at name before after (Err f) = Blames f (λ g. (d : ℕ) → Reads (Sights language r.text.now) language r.distinct d at (fails g))

-- a value was read from i to j, with d levels left, and its nodes were added
pub record Added (m : Manner) (text : List ℕ) (d i j : ℕ) (name : Option Part) (T U : Table) (before after : List Link) : Type 0 where
  pub tree : Raw
  pub reads : Reads (Sights m.language text) m.language m.distinct d i (got j tree)
  pub keeps : Keeps 0 T U
  pub stands : Stands U (length T.nodes) tree
  pub past : past_of U.nodes (length T.nodes) ≡ length U.nodes
  pub named : (node_at U.nodes (length T.nodes)).name ≡ name
  pub links : after ≡ before
  pub forward : i < j
  pub within : j ≤ length text

abbrev pub Told : Manner → List ℕ → (d i : ℕ) → Option Part → (T U : Table) (before after : List Link) → Result ℕ Fault → Type 0
Told m text d i name T U before after (Ok j) = Added m text d i j name T U before after
Told m text d i name T U before after (Err f) = Blames f (λ g. Reads (Sights m.language text) m.language m.distinct d i (fails g))

-- how a reader of a language reads
abbrev pub manner_of : {W : Type 0} → Language → Reader W → Manner
manner_of language r = record { language = language; distinct = r.distinct }

-- the names of the objects that are being read
abbrev pub links_of : Nodes → List Link
links_of n = vec_items n.names.links

-- the same of a reader, by the nodes before and after
abbrev pub ValueTold : {W : Type 0} → Language → Reader W → (d i : ℕ) → Option Part → (before after : Nodes) → Result ℕ Fault → Type 0
ValueTold language r d i name before after result = Told (manner_of language r) r.text.now d i name (table_of r.text.now before) (table_of r.text.now after) (links_of before) (links_of after) result

-- the same of a literal inside another text, at a depth, which has no name itself
abbrev pub LiteralIn : Bool → List ℕ → (depth i : ℕ) → (before after : Nodes) → Result ℕ Fault → Type 0
LiteralIn distinct text depth i before after result = Told (record { language = Graphql; distinct = distinct }) text (33 - depth) i None (table_of text before) (table_of text after) (links_of before) (links_of after) result

-- of one in which names may repeat
abbrev pub LiteralTold : List ℕ → (depth i : ℕ) → (before after : Nodes) → Result ℕ Fault → Type 0
LiteralTold = LiteralIn false

-- a mark was seen from i on; it begins the value whose node is n
pub record Opened (m : Manner) (text : List ℕ) (i at : ℕ) (mark : Lexical) (t : Raw) (T : Table) (name : Option Part) (n : Node) : Type 0 where
  pub start : ℕ
  pub seen : Seen m.language text i start at mark
  pub forward : i < at
  pub place : n.place ≡ start
  pub says : Says T n t
  pub named : n.name ≡ name
  pub size : n.size ≡ 1

-- the value whose node is n, and whose mark ends at `at`
abbrev pub RestTold : {W : Type 0} → Language → Reader W → (d at : ℕ) → Mark → Raw → Node → (before after : Nodes) → Result ℕ Fault → Type 0
RestTold language r d at mark t n before after result = (i : ℕ) (name : Option Part) → Opened (manner_of language r) r.text.now i at (a_mark mark) t (table_of r.text.now before) name n → ValueTold language r d i name before after result

-- items were read from i to j, and their nodes were added
pub record ItemsAdded (m : Manner) (text : List ℕ) (d i j : ℕ) (T U : Table) (before after : List Link) : Type 0 where
  pub trees : Raws
  pub reads : ReadsList (Sights m.language text) m.language m.distinct d i (got j trees)
  pub keeps : Keeps 0 T U
  pub stand : StandsAll U (length T.nodes) (length U.nodes) trees
  pub links : after ≡ before
  pub forward : i < j
  pub within : j ≤ length text

abbrev pub ItemsTold : {W : Type 0} → Language → Reader W → (d i : ℕ) → (before after : Nodes) → Result ℕ Fault → Type 0
ItemsTold language r d i before after (Ok j) = ItemsAdded (manner_of language r) r.text.now d i j (table_of r.text.now before) (table_of r.text.now after) (links_of before) (links_of after)
ItemsTold language r d i before after (Err f) = Blames f (λ g. ReadsList (Sights language r.text.now) language r.distinct d i (fails g))

-- the links from base on hold the names ns, where repeated names are refused
abbrev pub NamesHeld : Bool → (text pool : List ℕ) → List Link → ℕ → List Name → Type 0
NamesHeld true text pool links base ns = Sound text pool links base × (names_from text pool links base ≡ ns)
NamesHeld false text pool links base ns = Unit {0}

-- members were read from i to j, and their nodes were added
pub record MembersAdded (m : Manner) (text : List ℕ) (d i j : ℕ) (T U : Table) (base : ℕ) (before after : List Link) : Type 0 where
  pub trees : Mems
  pub reads : ReadsObject (Sights m.language text) m.language m.distinct d i (got j trees)
  pub keeps : Keeps 0 T U
  pub stand : StandsMems U (length T.nodes) (length U.nodes) trees
  pub below : take base after ≡ take base before
  pub forward : i < j
  pub within : j ≤ length text

abbrev pub MembersTold : {W : Type 0} → Language → Reader W → (d i base : ℕ) → (before after : Nodes) → Result ℕ Fault → Type 0
MembersTold language r d i base before after (Ok j) = MembersAdded (manner_of language r) r.text.now d i j (table_of r.text.now before) (table_of r.text.now after) base (links_of before) (links_of after)
MembersTold language r d i base before after (Err f) = Blames f (λ g. ReadsObject (Sights language r.text.now) language r.distinct d i (fails g))

-- a name that is new among those before it, or not
abbrev pub NewTold : Bool → (text pool : List ℕ) → ℕ → (before after : List Link) → Part → Result Bool AllocError → Type 0
NewTold distinct text pool base before after name (Ok true) = (ns : List Name) → base ≤ length before → PartFits text pool name → NamesHeld distinct text pool before base ns → (repeats distinct ns (bytes_of text pool name) ≡ false) × NamesHeld distinct text pool after base (ns ++ bytes_of text pool name ∷ []) × (take base after ≡ take base before) × (base ≤ length after)
NewTold distinct text pool base before after name (Ok false) = (ns : List Name) → PartFits text pool name → NamesHeld distinct text pool before base ns → repeats distinct ns (bytes_of text pool name) ≡ true
NewTold distinct text pool base before after name (Err e) = Unit {0}

-- the same of a reader, by the names before and after
abbrev pub RegisterTold : {W : Type 0} → Reader W → ℕ → List ℕ → Part → (before after : Names) → Result Bool AllocError → Type 0
RegisterTold r base pool name before after result = NewTold r.distinct r.text.now pool base (vec_items before.links) (vec_items after.links) name result

-- the part of the text or of the pool that is a name, or that the token is none
abbrev pub NamePartTold : Language → (text before after : List ℕ) → ℕ → Lexical → Result Part Fault → Type 0
NamePartTold language text before after start x (Ok p) = (n : Name) × (name_of language x ≡ some n) × PartFor text before after n p
NamePartTold language text before after start x (Err f) = Blames f (λ g. (g ≡ BadText start) × (name_of language x ≡ none))

-- the name of a member, and where the colon after it ends
pub record NameRead (m : Manner) (text : List ℕ) (i j : ℕ) (ns : List Name) (base : ℕ) (pool pool' : List ℕ) (before after : List Link) (p : Part) : Type 0 where
  pub name : Name
  pub reads : NameAt (Sights m.language text) m.language m.distinct ns i (got j name)
  pub part : PartFor text pool pool' name p
  pub held : NamesHeld m.distinct text pool' after base (ns ++ name ∷ [])
  pub below : take base after ≡ take base before
  pub within : base ≤ length after
  pub forward : i < j
  pub inside : j ≤ length text

abbrev pub NameTold : Manner → List ℕ → ℕ → List Name → ℕ → (pool pool' : List ℕ) (before after : List Link) → Result (Part × ℕ) Fault → Type 0
NameTold m text i ns base pool pool' before after (Ok p) = NameRead m text i p.1 ns base pool pool' before after p.0
NameTold m text i ns base pool pool' before after (Err f) = Blames f (λ g. NameAt (Sights m.language text) m.language m.distinct ns i (fails g))

-- the member's name at i, whatever names the object has before it
abbrev pub MemberTold : {W : Type 0} → Language → Reader W → (i base : ℕ) → (before after : Nodes) → Result (Part × ℕ) Fault → Type 0
MemberTold language r i base before after result = (ns : List Name) → NamesHeld r.distinct r.text.now (vec_items before.pool) (links_of before) base ns → NameTold (manner_of language r) r.text.now i ns base (vec_items before.pool) (vec_items after.pool) (links_of before) (links_of after) result

-- how it goes on after a value that ends at `at`, where v is seen
abbrev pub StepIs : Language → Mark → ℕ → Sight → List ℕ → ControlFlow ℕ ℕ → Type 0
StepIs language close at v text (Continue k) = (turn language close at v ≡ again k) × (at ≤ k) × (k ≤ length text)
StepIs language close at v text (Break e) = (turn language close at v ≡ done e) × (at < e) × (e ≤ length text)

abbrev pub TurnTold : Language → List ℕ → Mark → ℕ → Result (ControlFlow ℕ ℕ) Fault → Type 0
TurnTold language text close at (Ok s) = (v : Sight) × Sights language text at v × StepIs language close at v text s
TurnTold language text close at (Err f) = (v : Sight) × Sights language text at v × (turn language close at v ≡ halts f)
