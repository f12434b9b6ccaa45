use Rattle.std.proofs.Common.{◌≡◌, ℕ, List, ◌++◌, length, sym, ap, ◌∙◌, arith}
use Rattle.words.specs.Bytes.{Range, put}
use Rattle.words.specs.Pieces.{Room, Laid}
use Rattle.words.proofs.Parts.{put_all}
use Rattle.words.proofs.Pieces.{room-first, room_next, laid_more}
use Rattle.sizes.specs.Sizes.{head_length, entries_with}
use Rattle.batchfile.specs.declared.FileHead.{FileHead}
use Rattle.batchfile.specs.Laid.{contents_in, head_bytes, Bodies}
use Rattle.batchfile.proofs.Laid.{count-least, count_most}
use Rattle.batchfile.proofs.Batch.{entries-count}
use Rattle.filewriter.specs.Write.{file_of, lent}
use Rattle.filewriter.specs.Lengths.{size_in}
use Rattle.filewriter.proofs.Laying.{lengths_for, joined, pieces_are, end_is}
use Rattle.filewriter.proofs.lay_file.Goals as goal

abbrev head-of : FileHead → Range
head-of h = head_bytes head_length h

abbrev contents : Bodies → ℕ → Range
contents b n = contents_in n (size_in n (lengths_for head_length b))

-- the file by the number of entries that was found, and what is left before each step has room
module _ {file : List ℕ} (h : FileHead) (b : Bodies) (n : ℕ) (found : n ≡ entries_with (length b.setup)) (long : length file ≡ length (file_of h b)) where
  room-contents : Room file 0 (contents b n ++ joined (head-of h) b)
  room-contents = record { fits = omega (arith, long, ap length (pieces_are (head-of h) b n found)) }

  module _ {f₁ : List ℕ} {e₁ : ℕ} (l₁ : Laid file 0 (contents b n) f₁ e₁) where
    room-setup : Room f₁ e₁ (joined (head-of h) b)
    room-setup = room_next room-contents l₁

    module _ {f₂ : List ℕ} {e₂ : ℕ} (l₂ : Laid f₁ e₁ b.setup f₂ e₂) where
      room-head : Room f₂ e₂ (head-of h ++ (b.correction ++ (b.key ++ b.check)))
      room-head = room_next room-setup l₂

      module _ {f₃ : List ℕ} {e₃ : ℕ} (l₃ : Laid f₂ e₂ (head-of h) f₃ e₃) where
        room-correction : Room f₃ e₃ (b.correction ++ (b.key ++ b.check))
        room-correction = room_next room-head l₃

        module _ {f₄ : List ℕ} {e₄ : ℕ} (l₄ : Laid f₃ e₃ b.correction f₄ e₄) where
          room-key : Room f₄ e₄ (b.key ++ b.check)
          room-key = room_next room-correction l₄

          whole : {f₅ f₆ : List ℕ} {e₅ e₆ : ℕ} → Laid f₄ e₄ b.key f₅ e₅ → Laid f₅ e₅ b.check f₆ e₆ → f₆ ≡ file_of h b
          whole l₅ l₆ =
              (laid_more room-contents l₁ (laid_more room-setup l₂ (laid_more room-head l₃ (laid_more room-correction l₄ (laid_more room-key l₅ l₆))))).bytes
              ∙ ap (put file 0) (pieces_are (head-of h) b n found)
              ∙ put_all file (file_of h b) (sym long)

pub lay_contents-at-requires : goal.lay_contents-at-requires
lay_contents-at-requires c =
    let b = lent c.args.bodies in
    let n = c.entries_with.result in
    let found : n ≡ entries_with (length b.setup) = c.entries_with.ensures in
    let four-or-five = entries-count (length b.setup) in (
      room-first _ (room-contents c.args.head b n found c.requires.0),
      omega (arith, found, count-least (entries_with (length b.setup)) four-or-five),
      omega (arith, found, count_most (entries_with (length b.setup)) four-or-five),
      omega (arith, end_is (head_bytes head_length c.args.head) b n found, c.requires.0, c.requires.1),
    )

pub lay-at-requires : goal.lay-at-requires
lay-at-requires c = room-first _ (room-setup c.args.head (lent c.args.bodies) _ c.entries_with.ensures c.requires.0 c.lay_contents-at.ensures)

pub lay_head-at-requires : goal.lay_head-at-requires
lay_head-at-requires c =
    room-first _ (room-head c.args.head (lent c.args.bodies) _ c.entries_with.ensures c.requires.0 c.lay_contents-at.ensures c.lay-at.ensures)

pub lay-at-requires-2 : goal.lay-at-requires-2
lay-at-requires-2 c =
    room-first _
    (room-correction c.args.head (lent c.args.bodies) _ c.entries_with.ensures c.requires.0 c.lay_contents-at.ensures c.lay-at.ensures
    c.lay_head-at.ensures)

pub lay-at-requires-3 : goal.lay-at-requires-3
lay-at-requires-3 c =
    room-first _
    (room-key c.args.head (lent c.args.bodies) _ c.entries_with.ensures c.requires.0 c.lay_contents-at.ensures c.lay-at.ensures
    c.lay_head-at.ensures c.lay-at-2.ensures)

pub lay-requires : goal.lay-requires
lay-requires c =
    room_next
    (room-key c.args.head (lent c.args.bodies) _ c.entries_with.ensures c.requires.0 c.lay_contents-at.ensures c.lay-at.ensures
    c.lay_head-at.ensures c.lay-at-2.ensures)
    c.lay-at-3.ensures

pub returns : goal.returns
returns c =
    whole c.args.head (lent c.args.bodies) _ c.entries_with.ensures c.requires.0 c.lay_contents-at.ensures c.lay-at.ensures
    c.lay_head-at.ensures c.lay-at-2.ensures c.lay-at-3.ensures c.lay.ensures
