pub mod TicketText
pub mod FirstWrong
pub mod AcceptedTexts
pub mod RefusedTexts
pub mod TextsJudged
