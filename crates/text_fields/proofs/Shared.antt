-- What proofs of the crates above may take from here: lemmas about the definitions of this crate.
pub use Rattle.text_fields.proofs.DecimalDigits.{all-decimal, decimal-read, decimal_of-decimal}
pub use Rattle.text_fields.proofs.HexDigits.{all-hex, length-hex}
pub use Rattle.text_fields.proofs.HexNumbers.{digits-of_hex, hex-injective, hex_of-digits, pow-small}
pub use Rattle.text_fields.proofs.ByteDigits.{all-data, data-read, data_of-data}
pub use Rattle.text_fields.proofs.LaneBits.{all-run, none-set, run-few, run-passes}
pub use Rattle.text_fields.proofs.LineFeeds.{feed-rest, line-is, no_feed-append, no_feed-decimal, no_feed-hex, no_line, same_line}
pub use Rattle.text_fields.proofs.MaskDigits.{length-mask, mask-injective, mask_of-digits, digits-of_mask, no_feed-mask}
pub use Rattle.text_fields.proofs.Ranges.{if-some, within-found, within-is}
pub use Rattle.text_fields.proofs.RowByRow.{all_items, all_mean, fault_means, first_fault, get_more, held, more_items, no_items}
pub use Rattle.text_fields.proofs.Splits.{no-all, no_split, same_last, same_split}
pub use Rattle.text_fields.proofs.TrimmedRows.{trimmed-more, trimmed-split}
pub use Rattle.text_fields.proofs.PlainRecords.{ArePlain, IsPlainRecord, no-mark, no-mark-empty, none-next, plain-next}
pub use Rattle.text_fields.specs.PlainRows.{is_plain}
