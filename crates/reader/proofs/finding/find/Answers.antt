-- `reader::finding::find` meets its contract, by cases: past the end, a record, short, stray, unsound. Assumes nothing.
use mathlib.Core.Path.{◌≡◌, sym, ap, ap₂, ◌∙◌}
use mathlib.Core.Bool.{Bool, true, false}
use mathlib.Core.List.{List}
use Prim.Native.Nat.{ℕ, ◌*◌, ◌<◌}
use lib.ListN.{length}
use Rattle.reader.specs.Runs.{block_at, from, starts}
use Rattle.reader.specs.Events.{loss_if, loss_of}
use Rattle.reader.specs.Finding.{found_at}
use Rattle.reader.specs.declared.finding.Loss.{Loss}
use Rattle.reader.specs.declared.finding.Found.TheVariants.{Record, Lost}
use Rattle.blocks.specs.Block.{record_number, record_length}
use Rattle.reader.proofs.Laws.Found.{found_none, found_record, found_lost, block_inside, block_none, loss_short, loss_whole}
use Rattle.reader.proofs.finding.find.Goals as goal

-- a block that is not empty, at a place where no record starts
module _ (deck : List ℕ) (position : ℕ) (block : List ℕ) (is : block ≡ block_at deck position) (some : length block ≡ 0 → ⊥) where
  inside : 512 * position < length deck
  inside = block_inside deck position (λ e. some (ap length is ∙ e))

  lost : (start : Bool) → start ≡ starts (from deck position) → start ≡ false → (loss : Loss) → loss_of block ≡ loss → Lost loss ≡ found_at deck position
  lost start e stranger loss by =
      sym (found_lost deck position inside (sym e ∙ stranger) ∙ ap (λ (l : Loss). Lost l) (ap loss_of (sym is) ∙ by))

pub returns-then-block-eq0 : goal.returns-then-block-eq0
returns-then-block-eq0 c =
    let deck : List ℕ = c.args.deck.now in
    let position : ℕ = c.args.position in
    sym (found_none deck position (block_none deck position (sym (ap length c.block_at-block.ensures) ∙ c.if-block-eq0.true)))

pub is_start-requires : goal.is_start-requires
is_start-requires c = inside c.args.deck.now c.args.position _ c.block_at-block.ensures c.if-block-eq0.false

pub returns-then-is_start : goal.returns-then-is_start
returns-then-is_start c =
    let deck : List ℕ = c.args.deck.now in
    let position : ℕ = c.args.position in
    sym (found_record deck position (inside deck position _ c.block_at-block.ensures c.if-block-eq0.false) (sym c.is_start.ensures ∙ c.if-is_start.true)
    ∙ ap₂ (λ (a b : ℕ). Record a b)
    (ap record_number (sym c.block_at-block.ensures) ∙ sym c.record_number.ensures.0)
    (ap record_length (sym c.block_at-block.ensures) ∙ sym c.record_length.ensures.0))

pub returns-then-block-lt512 : goal.returns-then-block-lt512
returns-then-block-lt512 c =
    lost c.args.deck.now c.args.position _ c.block_at-block.ensures c.if-block-eq0.false _ c.is_start.ensures c.if-is_start.false _
    (loss_short c.block_at-block.result.now c.if-block-lt512.true)

-- a whole block is lost by whether it is sound
pub returns-then-is_sound_block : goal.returns-then-is_sound_block
returns-then-is_sound_block c =
    lost c.args.deck.now c.args.position _ c.block_at-block.ensures c.if-block-eq0.false _ c.is_start.ensures c.if-is_start.false _
    (loss_whole c.block_at-block.result.now c.if-block-lt512.false ∙ ap (loss_if false) (sym c.is_sound_block.ensures ∙ c.if-is_sound_block.true))

pub returns : goal.returns
returns c =
    lost c.args.deck.now c.args.position _ c.block_at-block.ensures c.if-block-eq0.false _ c.is_start.ensures c.if-is_start.false _
    (loss_whole c.block_at-block.result.now c.if-block-lt512.false ∙ ap (loss_if false) (sym c.is_sound_block.ensures ∙ c.if-is_sound_block.false))
