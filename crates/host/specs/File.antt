-- What C gets of a batch on file. Paper 02, note 1. Assumes nothing.
use Rattle.std.specs.Prelude.{length}
use Rattle.words.specs.Bytes.{Range}
use Rattle.answer.specs.Answer.{number}
use Rattle.batchfile.specs.File.{read_answer, head_found, places_found}
use Rattle.host.specs.declared.FileRead.{FileRead}

-- the answer's number, the head's values, where each body begins, and the file's end
abbrev pub file_read : (file : Range) → FileRead
file_read file =
    record {
      answer = number (read_answer file);
      width = (head_found file).width;
      blocks = (head_found file).blocks;
      batch = (head_found file).batch;
      setup = (places_found file).setup;
      head = (places_found file).head;
      correction = (places_found file).correction;
      key = (places_found file).key;
      check = (places_found file).check;
      end = length file;
    }
