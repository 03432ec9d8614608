-- The chains of a book (document 01, "The book in bytes"; of links, document 02, P6): `next` holds the index of the following record, and zero ends the chain.
-- A chain is followed for at most R records; that this is all of it in an accepted book is a law (proofs/Accepted).
-- What is said here of each chain is all that the causes of a refusal ask of it: one more chain is one more case. Assumes nothing.
use Rattle.std.specs.Prelude.{ℕ, zero, suc, List, [], ◌∷◌, map, Bool, true, false, eqb, length}
use Rattle.fields.specs.Tests.{member}
use Rattle.records.specs.Layout.{step_kind, block_kind, link_kind}
use Rattle.records.specs.Records.{record_count, first_step, first_block, first_link, next, step_at, block_at, link_at}
use Rattle.records.specs.declared.Step.{Step}
use Rattle.records.specs.declared.Block.{Block}
use Rattle.records.specs.declared.Link.{Link}
use Rattle.chains.specs.declared.Chain.{Chain}
use Rattle.chains.specs.declared.Chain.TheVariants as chain-of

-- The indices met from i on by following `next`, at most n of them
unfoldable pub chain_from : ℕ → List ℕ → ℕ → List ℕ
chain_from zero b i = []
chain_from (suc n) b i = elim (eqb i 0) [ true ↦ [] | false ↦ i ∷ chain_from n b (next b i) ]

-- The chain that starts at i
abbrev pub chain : List ℕ → ℕ → List ℕ
chain b i = chain_from (record_count b) b i

-- EACH CHAIN
-- The chains of a book: of the steps, of the blocks, of the links
unfoldable pub chains : List Chain
chains = chain-of.Steps ∷ chain-of.Blocks ∷ chain-of.Links ∷ []

-- The index of a chain's first record, in the head; 0 where it has none
abbrev pub first_on : List ℕ → Chain → ℕ
first_on b chain-of.Steps = first_step b
first_on b chain-of.Blocks = first_block b
first_on b chain-of.Links = first_link b

-- The kind of the records that belong on it
abbrev pub kind_on : Chain → ℕ
kind_on chain-of.Steps = step_kind
kind_on chain-of.Blocks = block_kind
kind_on chain-of.Links = link_kind

-- Whether its records have numbers that must rise; of the links they are the children's
abbrev pub numbered : Chain → Bool
numbered chain-of.Steps = true
numbered chain-of.Blocks = true
numbered chain-of.Links = true

-- The indices of its records
abbrev pub chain_of : List ℕ → Chain → List ℕ
chain_of b c = chain b (first_on b c)

-- Record i is on it
unfoldable pub is_on : List ℕ → ℕ → Chain → Bool
is_on b i c = member i (chain_of b c)

-- How many records it has
abbrev pub count_on : List ℕ → Chain → ℕ
count_on b c = length (chain_of b c)

-- THE ORDERS
-- The indices of the book's steps, in the order in which they are numbered and handed on: today that of their chain, whose numbers rise
unfoldable pub step_order : List ℕ → List ℕ
step_order b = chain_of b chain-of.Steps

-- The indices of the book's blocks, likewise
unfoldable pub block_order : List ℕ → List ℕ
block_order b = chain_of b chain-of.Blocks

-- The indices of the book's links, likewise: by their children's numbers
unfoldable pub link_order : List ℕ → List ℕ
link_order b = chain_of b chain-of.Links

-- The book's steps, in this order
unfoldable pub steps : List ℕ → List Step
steps b = map (step_at b) (step_order b)

-- The book's blocks, in this order
unfoldable pub blocks : List ℕ → List Block
blocks b = map (block_at b) (block_order b)

-- The book's links, in this order
unfoldable pub links : List ℕ → List Link
links b = map (link_at b) (link_order b)
